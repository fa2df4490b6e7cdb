-- Tokens, and why no token begins at a place.
use Rattle.dns_spec.proofs.Common.{None, Some, [], bad_octet, beginning, blank, codes, cut_entries, false, fault_code, in_string, in_token, line_end, opening, quoted_string, run_length, stop_at, stop_fault, text_over, token_front, too_long, true, whole_text, word, ◌∷◌, ◌≡◌}

token_rows :
    (token_front (codes "a\\ b c") ≡ Some (word (codes "a\\ b"), codes " c"))
    × (token_front (codes "\"a b\\\"c\" d") ≡ Some (quoted_string (codes "a b\\\"c"), codes " d"))
    × (token_front (codes "\r\nb") ≡ Some (line_end, codes "b"))
    × (token_front (codes "\rb") ≡ None)
    -- a line end inside parentheses does not end an entry
    × (cut_entries false (opening ∷ line_end ∷ word (codes "a") ∷ [])
    ≡ (opening ∷ line_end ∷ word (codes "a") ∷ []) ∷ [])
    × (cut_entries false (line_end ∷ blank ∷ []) ≡ (line_end ∷ []) ∷ (blank ∷ []) ∷ [])
    -- why no token begins
    × (stop_at (codes "\"a\nb") ≡ in_string (codes "\nb"))
    -- the fault at the end of an entry, if the whole text is examined, and if the text goes on
    × (stop_fault whole_text false text_over ≡ None)
    × (stop_fault beginning true text_over ≡ Some too_long)
    × (stop_fault beginning false (in_token (codes "\\25")) ≡ Some too_long)
    -- the codes of the first and of the last fault
    × (fault_code bad_octet ≡ 1)
unfolding run_length
token_rows = search []
