use Rattle.dns_tools.proofs.Common.{◌≡◌, ◌==◌, length, arith, ap, ◌∙◌, Appends-trans, beginning_of_first, beginning_of_second, vec_len}
use Rattle.dns_tools.proofs.Listing.{file_list, file_begun, file_listed, faults_count, first_empty, first_full}
use Rattle.dns_tools.proofs.faults.list_file.Goals.{then-is_empty, else-is_empty}
use Rattle.dns_tools.proofs.faults.list_file.Goals as goal

pub returns-in_err-write_entry_faults-clause-report :
    goal.returns-in_err-write_entry_faults-clause-report
returns-in_err-write_entry_faults-clause-report g c =
    let stopped = c.from_residual-in_err-write_entry_faults in
    file_begun _ _ stopped.result
    (file_list c.args.origin.now c.fold.result c.args.text.now c.in_ok-list.list _ _ _ _
    c.fold.ensures c.new-store.ensures c.in_ok-list.ensures c.in_ok-zone_faults.ensures.ok
    c.listed-zone.ensures)
    stopped.ensures.1 (beginning_of_first _ _ _ _ c.in_err-write_entry_faults.ensures.err)

pub returns-in_err-write_check_faults-clause-report :
    goal.returns-in_err-write_check_faults-clause-report
returns-in_err-write_check_faults-clause-report g c =
    let stopped = c.from_residual-in_err-write_check_faults in
    file_begun _ _ stopped.result
    (file_list c.args.origin.now c.fold.result c.args.text.now c.in_ok-list.list _ _ _ _
    c.fold.ensures c.new-store.ensures c.in_ok-list.ensures c.in_ok-zone_faults.ensures.ok
    c.listed-zone.ensures)
    stopped.ensures.1 (beginning_of_second _ _ _ _ _ c.in_ok-write_entry_faults.ensures.ok
    c.in_err-write_check_faults.ensures.err)

pub returns-clause-report : goal.returns-clause-report
returns-clause-report g c =
    let faults = c.in_ok-list.list.faults in
    let count : vec_len faults ≡ length faults.items = omega (arith, faults.ok.0) in
    let first = c.is_empty.ensures ∙ ap (λ n. n == 0) count in
    file_listed _ _ c.if-is_empty.result
    (file_list c.args.origin.now c.fold.result c.args.text.now c.in_ok-list.list _ _ _ _
    c.fold.ensures c.new-store.ensures c.in_ok-list.ensures c.in_ok-zone_faults.ensures.ok
    c.listed-zone.ensures)
    (elim c.if-is_empty.branch [
      | then-is_empty w ↦ first_empty _ _ first w.if-is_empty.true
          (w.is_empty-then-is_empty.ensures ∙ ap (λ n. n == 0) (faults_count c.listed-zone.result))
          w.result-is
      | else-is_empty w ↦ first_full _ _ first w.if-is_empty.false w.result-is
    ])
    (Appends-trans _ _ _ _ _ c.in_ok-write_entry_faults.ensures.ok
    c.in_ok-write_check_faults.ensures.ok)
