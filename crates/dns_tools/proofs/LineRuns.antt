-- How a run over lines goes on, octet by octet.
use Rattle.dns_tools.proofs.Common.{◌≡◌, ◌≢◌, ℕ, ◌+◌, Bool, true, false, ◌&&◌, List, [], ◌∷◌, ◌++◌, take, drop, Option, refl, sym, ap, ◌∙◌, subst, arith, append_assoc, append-nil, length-append, is_some, take-append-drop, list_all-append, flat_map-append, Appends, Octets, Appends-trans, Appends-nil, lines, line_message, message_answer, line_answers, are_messages, AppendsBeginning, beginning_of_first, beginning_of_second, hex_octets, kept_line, Kept, IsFresh, Progress, Begun, Grows}
use Rattle.dns_tools.proofs.KeptLines.{ends_append, ends_one, line_then, keeps_kept, kept_says}

-- nothing has been read
pub progress_none : (reply : Octets → Option Octets) (held : Option Octets) (k : Kept) → IsFresh k
    → Progress reply held held [] k
progress_none reply held k fresh = record {
  ended = [];
  front = [];
  same = λ y. refl;
  none_ended = refl;
  count = refl;
  kept = fresh.line;
  written = Appends-nil held;
  passes_is = fresh.passes;
}

-- the next octet belongs to the unfinished line
pub progress_keep : (reply : Octets → Option Octets) (held holds : Option Octets) (x : Octets)
    (k n : Kept) (o : ℕ) → o ≢ 10 → n.line ≡ kept_line (k.line ++ o ∷ []) → n.passes ≡ k.passes
    → Progress reply held holds x k → Progress reply held holds (x ++ o ∷ []) n
progress_keep reply held holds x k n o other keeps passes p =
    let last = ends_one o other in
    record {
      ended = p.ended;
      front = p.front ++ o ∷ [];
      same = λ y. ap lines (append_assoc x (o ∷ []) y) ∙ p.same (o ∷ y)
          ∙ ap (λ f. p.ended ++ lines f) (sym (append_assoc p.front (o ∷ []) y));
      none_ended = omega (arith, ends_append p.front (o ∷ []), p.none_ended, last);
      count = omega (arith, ends_append x (o ∷ []), p.count, last);
      kept = keeps_kept p.front k.line n.line o p.kept keeps;
      written = p.written;
      passes_is = passes ∙ p.passes_is;
    }

and_true : (b c : Bool) → (b && (c && true)) ≡ (b && c)
and_true true true = refl
and_true true false = refl
and_true false c = refl

-- one more line: the answers to all, and whether all are messages
module _ (reply : Octets → Option Octets) (ended : List Octets) (front : Octets) (k : Kept)
    (kept : k.line ≡ kept_line front) where
  says : hex_octets k.line ≡ line_message front
  says = ap hex_octets kept ∙ kept_says front

  pub one_answer : line_answers reply ended ++ message_answer reply (hex_octets k.line)
      ≡ line_answers reply (ended ++ front ∷ [])
  one_answer = grind (arith, ended, says, flat_map-append, append-nil)

  pub one_flag : (passes : Bool) → passes ≡ (k.passes && is_some (hex_octets k.line))
      → k.passes ≡ are_messages ended → passes ≡ are_messages (ended ++ front ∷ [])
  one_flag passes now before = grind (arith, says, list_all-append, ended, and_true)

-- an octet that ends a line
module _ (reply : Octets → Option Octets) (held old new : Option Octets) (x : Octets) (k : Kept)
    (p : Progress reply held old x k) where
  abbrev answer : Octets
  answer = message_answer reply (hex_octets k.line)

  ended : (y : Octets) → lines ((x ++ 10 ∷ []) ++ y) ≡ (p.ended ++ p.front ∷ []) ++ lines y
  ended y = grind (arith, lines, append_assoc, line_then)

  pub progress_end : (n : Kept) → Appends old new answer → n.line ≡ [] → n.passes
      ≡ (k.passes && is_some (hex_octets k.line)) → Progress reply held new (x ++ 10 ∷ []) n
  progress_end n written line passes = record {
    ended = p.ended ++ p.front ∷ [];
    front = [];
    same = ended;
    none_ended = refl;
    count = length-append p.ended (p.front ∷ []) ∙ ap (λ c. c + 1) p.count
        ∙ sym (ends_append x (10 ∷ []));
    kept = line;
    written = subst (Appends held new) (one_answer reply p.ended p.front k p.kept)
        (Appends-trans held old new (line_answers reply p.ended) answer p.written written);
    passes_is = one_flag reply p.ended p.front k p.kept n.passes passes p.passes_is;
  }

  -- only a prefix of its answer was written
  pub begun_end : AppendsBeginning old new answer → Begun reply held new (x ++ 10 ∷ [])
  begun_end begun = λ y.
      let first = line_answers reply p.ended in
      let whole : (first ++ answer) ++ line_answers reply (lines y)
      ≡ line_answers reply (lines ((x ++ 10 ∷ []) ++ y)) =
      ap (λ a. a ++ line_answers reply (lines y)) (one_answer reply p.ended p.front k p.kept)
      ∙ sym (ap (line_answers reply) (ended y)
      ∙ flat_map-append
      (λ l. message_answer reply (line_message l)) (p.ended ++ p.front ∷ []) (lines y)) in
      subst (AppendsBeginning held new) whole
      (beginning_of_first held new (first ++ answer) _
      (beginning_of_second held old new first answer p.written begun))

-- Octets one after another: the first i were taken, and `o` comes next.
module _ (r : Octets → Option Octets) (held a : Option Octets) (x octets : Octets) (i o : ℕ)
    (k : Kept) (next : take (i + 1) octets ≡ take i octets ++ o ∷ [])
    (p : Progress r held a (x ++ take i octets) k) where
  grown : (x ++ take i octets) ++ o ∷ [] ≡ x ++ take (i + 1) octets
  grown = append_assoc x (take i octets) (o ∷ []) ∙ ap (λ z. x ++ z) (sym next)

  pub kept_more : (n : Kept) → o ≢ 10 → n.line ≡ kept_line (k.line ++ o ∷ []) → n.passes ≡ k.passes
      → Progress r held a (x ++ take (i + 1) octets) n
  kept_more n other keeps passes = grind (arith, grown, progress_keep)

  pub ended_more : (s : Octets → Option Octets) (b : Option Octets) (n : Kept) → s ≡ r
      → o ≡ 10 → Appends a b (message_answer s (hex_octets k.line)) → n.line ≡ [] → n.passes
      ≡ (k.passes && is_some (hex_octets k.line)) → Progress r held b (x ++ take (i + 1) octets) n
  ended_more s b n same is written line passes = grind (arith, grown, progress_end)

  pub begun_within : (s : Octets → Option Octets) (b : Option Octets) → s ≡ r → o ≡ 10
      → AppendsBeginning a b (message_answer s (hex_octets k.line)) → Begun r held b (x ++ octets)
  begun_within s b same is begun = λ y.
      let here =
      subst (λ q. AppendsBeginning a b (message_answer q (hex_octets k.line))) same begun in
      let rest = drop (i + 1) octets in
      let all : ((x ++ take i octets) ++ 10 ∷ []) ++ (rest ++ y) ≡ (x ++ octets) ++ y =
      ap (λ z. z ++ (rest ++ y)) (ap (λ c. (x ++ take i octets) ++ c ∷ []) (sym is) ∙ grown)
      ∙ sym (append_assoc (x ++ take (i + 1) octets) rest y)
      ∙ ap (λ z. z ++ y) (append_assoc x (take (i + 1) octets) rest
      ∙ ap (λ z. x ++ z) (take-append-drop (i + 1) octets)) in
      subst (λ z. AppendsBeginning held b (line_answers r (lines z))) all
      (begun_end r held a b (x ++ take i octets) k p here (rest ++ y))

pub taken_all : (r : Octets → Option Octets) (held b : Option Octets) (x octets : Octets) (i : ℕ)
    (k : Kept) → take i octets ≡ octets → Progress r held b (x ++ take i octets) k
    → Progress r held b (x ++ octets) k
taken_all r held b x octets i k all p = subst (λ t. Progress r held b (x ++ t) k) all p

-- a sink grows by a text, by a prefix of one, and by two texts in turn
pub grows_written : (a b : Option Octets) (text : Octets) → Appends a b text → Grows a b
grows_written a b text w = (text, w)

pub grows_begun : (a b : Option Octets) (text : Octets) → AppendsBeginning a b text → Grows a b
grows_begun a b text (n, h, w) = (take n text, w)

pub grows_trans : (a b c : Option Octets) → Grows a b → Grows b c → Grows a c
grows_trans a b c (bs, h) (cs, k) = (bs ++ cs, Appends-trans a b c bs cs h k)
