-- Lines of output are written in parts.
use Rattle.std.specs.List.{fold}
use Rattle.dns_tools.proofs.Common.{◌≡◌, ℕ, ◌+◌, ◌<◌, List, [], ◌∷◌, ◌++◌, length, drop, get_or, ap, sym, flat_map, append_assoc, append-nil, add-one, false≢true, arith, drop-cons, Octets, Result, Ok, Err, IsErr, Option, Counted, Writes, Writes-same, Written, Written-more, Written-begun, part_text, ◌∙◌}
use Rattle.dns_tools.specs.declared.line_parts.LinePart.{LinePart}

-- the text of the next piece, and the texts of the pieces after it
pub next_piece : {A : Type 0} (f : A → Octets) (xs : List A) (x : A) (i : ℕ) → i < length xs
    → x ≡ get_or xs i x → flat_map f (drop i xs) ≡ f x ++ flat_map f (drop (i + 1) xs)
next_piece f xs x i h e = grind (arith, flat_map, drop-cons, add-one)

-- part of a text was written without a failure, and `rest` is still to come
pub record IsLeft {V : Type 0} (contents : V → Option Octets) (old now : Counted V)
    (whole rest : Octets) : Type 0 where
  pub written : Written (contents old.device) (contents now.device) whole rest
  pub counted : now.failures ≡ old.failures

-- the next text is written
pub text_written : {V E A : Type 0} {contents : V → Option Octets} {old mid new : Counted V} {a : A}
    {whole rest : Octets} (text others : Octets) → IsLeft contents old mid whole rest
    → rest ≡ text ++ others
    → Writes {E = E} contents mid new (Ok a) text → IsLeft contents old new whole others
text_written text others so e w = record {
  written = Written-more _ _ _ _ _ _ _ so.written e w.ok;
  counted = w.counted ∙ so.counted;
}

-- a prefix of the next text was written, and the result is an error
pub text_begun : {V E A F B : Type 0} {contents : V → Option Octets} {old mid new : Counted V}
    {e : E} {r : Result B F} {whole rest : Octets} (text others : Octets)
    → IsLeft contents old mid whole rest → rest ≡ text ++ others
    → Writes {A = A} contents mid new (Err e) text → IsErr r → Writes contents old new r whole
text_begun {r = Err failed} text others so e w err = record {
  ok = tt;
  err = Written-begun _ _ _ _ _ _ _ so.written e w.err;
  counted = w.counted ∙ ap (λ count. count + 1) so.counted;
}
text_begun {r = Ok answer} text others so e w err = absurd (false≢true err)

-- the next piece is written
pub piece_written : {V E A T : Type 0} {contents : V → Option Octets} {old mid new : Counted V}
    {a : A} {x : T} {i : ℕ} {whole text : Octets} (f : T → Octets) (xs : List T)
    → i < length xs → x ≡ get_or xs i x → IsLeft contents old mid whole (flat_map f (drop i xs))
    → text ≡ f x → Writes {E = E} contents mid new (Ok a) text
    → IsLeft contents old new whole (flat_map f (drop (i + 1) xs))
piece_written {x = x} {i} f xs within is so text w =
    text_written (f x) _ so (next_piece f xs x i within is) (Writes-same text w)

-- a prefix of the next piece was written, and the result is an error
pub piece_begun : {V E A F B T : Type 0} {contents : V → Option Octets} {old mid new : Counted V}
    {e : E} {r : Result B F} {x : T} {i : ℕ} {whole text : Octets} (f : T → Octets) (xs : List T)
    → i < length xs → x ≡ get_or xs i x → IsLeft contents old mid whole (flat_map f (drop i xs))
    → text ≡ f x → Writes {A = A} contents mid new (Err e) text → IsErr r
    → Writes contents old new r whole
piece_begun {x = x} {i} f xs within is so text w =
    text_begun (f x) _ so (next_piece f xs x i within is) (Writes-same text w)

-- the texts of parts, appended to a text
pub parts_after : (text : Octets) (parts : List LinePart)
    → fold (λ t part. t ++ part_text part) text parts ≡ text ++ flat_map part_text parts
parts_after text [] = sym (append-nil text)
parts_after text (part ∷ parts) =
    parts_after (text ++ part_text part) parts
    ∙ append_assoc text (part_text part) (flat_map part_text parts)
