use Rattle.dns_master.proofs.Common.{rules, ◌≡◌, ◌+◌, ◌≤◌, ◌&&◌, true, take, drop, length, ap, ap₂, sym, ◌∙◌, arith, length-drop, take-add, drop-drop, list_all-append, list_all, is_string_octet}
use Rattle.dns_master.proofs.run.plain_front.Goals as goal

pub groups-preserved : goal.groups-preserved
groups-preserved c =
    let text = c.args.text.now in
    let front = c.groups.front in
    let group_is : c.in-Some.group.now ≡ take 16 c.groups.rest.now = search rules in
    let others_is : c.in-Some.others.now ≡ drop 16 c.groups.rest.now = search rules in
    let size : 16 ≤ length c.groups.rest.now = search rules in
    let left = c.groups.invariant.left in
    let fits : length c.groups.rest.now + front ≡ length text =
    omega (arith, ap length left, length-drop front text, c.groups.invariant.bound) in
    let here : list_all is_string_octet (take 16 (drop front text)) ≡ true =
    ap (list_all is_string_octet) (ap (take 16) (sym left) ∙ sym group_is)
    ∙ sym c.are_plain.ensures ∙ search rules in
    record {
      bound = omega (arith, fits, size);
      left = others_is ∙ ap (drop 16) left ∙ drop-drop 16 front text;
      plain = ap (list_all is_string_octet) (take-add front 16 text)
          ∙ list_all-append is_string_octet (take front text) (take 16 (drop front text))
          ∙ ap₂ ◌&&◌ c.groups.invariant.plain here;
    }
