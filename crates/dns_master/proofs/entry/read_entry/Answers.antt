use Rattle.dns_master.proofs.Common.{length-drop, prefix_len, is_blank, rules, ◌≡◌, ◌+◌, ◌∷◌, ◌++◌, [], Some, None, length, take, refl, sym, ap, ◌∙◌, arith, front-shorter, shown_token, line_ends, token_words, word_of, Token}
use Rattle.dns_master.proofs.EntryFacts.{reads-wrong, reads-last, reads-stop}
use Rattle.dns_master.proofs.EntryLoop.{blanks-passed, entry-ended, entry-stopped, token-read, word-stored, word-left_out, other-passed, wrong-lines}
use Rattle.dns_master.proofs.entry.read_entry.Goals as goal
use Rattle.dns_master.proofs.entry.read_entry.Goals.{After-step_after, in-LineEnd, in_default-matches, then-len-most+in_ok-push, else-len-most}

pub tokens-smaller-in-Some-word_of : goal.tokens-smaller-in-Some-word_of
tokens-smaller-in-Some-word_of c =
    let less = front-shorter c.tokens.rest.now
    (shown_token c.in-Some.token) c.in-Some.others.now c.in-Some.ensures in
    omega (
      arith,
      less,
      length-drop (prefix_len is_blank c.in-Some.others.now) c.in-Some.others.now,
      ap length c.after_blanks-rest.ensures,
    )

pub tokens-preserved-in-Some-word_of : goal.tokens-preserved-in-Some-word_of
tokens-preserved-in-Some-word_of c =
    let token = shown_token c.in-Some.token in
    let word : word_of token ≡ Some c.in-Some-word_of.word =
    sym c.word_of.ensures ∙ c.in-Some-word_of.is in
    let is = c.tokens.invariant.stored in
    let stored : c.if-len-most.words.items
    ≡ take c.args.most (token_words c.tokens.invariant.tokens ++ token_words (token ∷ [])) =
    elim c.if-len-most.branch [
      | then-len-most+in_ok-push w ↦
          let grown : w.push.new.self.items ≡ c.tokens.words.items ++ c.in-Some-word_of.word ∷ []
          = search rules in
          rw w.words-is (grown ∙ word-stored c.args.most _ _ token is _ word (search rules))
      | else-len-most w ↦
          rw w.words-is (word-left_out c.args.most _ _ token is (search rules))
    ] in
    rw c.after_blanks-rest.ensures (blanks-passed _ _ c.tokens.is_open c.in-Some.others.now _ _
    (token-read _ _ c.tokens.is_open c.tokens.rest.now _ _ c.tokens.invariant c.tokens.is_open
    c.in-Some.others.now token _ _ c.in-Some.ensures (search rules) stored (search rules)))

-- a token was read that is not a word
module _ (c : After-step_after) where
  abbrev token : Token
  token = shown_token c.in-Some.token

  none : word_of token ≡ None
  none = sym c.word_of.ensures ∙ c.in_default-word_of.is

  counted : c.tokens.lines + c.from.result ≡ c.tokens.lines + line_ends (token ∷ [])
  counted = elim c.match-matches.branch
      [ in-LineEnd w ↦ search rules | in_default-matches w ↦ search rules ]

pub returns-in-Misplaced : goal.returns-in-Misplaced
returns-in-Misplaced c =
    let at = (goal.at.returns-in-Misplaced c).After-step_after in
    entry-stopped _ _ c.tokens.is_open c.tokens.rest.now _ _ c.tokens.invariant _ _
    (reads-wrong _ _ _ (token at) c.in-Some.ensures c.in-Misplaced.ensures)
    (counted at ∙ ap (λ n. c.tokens.lines + n) (wrong-lines _ _ c.in-Misplaced.ensures)
    ∙ omega arith) (omega arith)

pub returns-in-Over : goal.returns-in-Over
returns-in-Over c =
    let at = (goal.at.returns-in-Over c).After-step_after in
    let is = c.in-Over.ensures in
    entry-ended _ _ c.tokens.is_open c.tokens.rest.now _ _ c.tokens.invariant
    c.in-Some.others.now (token at) _ _ c.in-Some.ensures
    (reads-last _ _ _ _ c.in-Some.ensures is.0 is.1) (none at) (counted at) refl

pub tokens-smaller : goal.tokens-smaller
tokens-smaller c = front-shorter c.tokens.rest.now
    (shown_token c.in-Some.token) c.in-Some.others.now c.in-Some.ensures

pub tokens-preserved : goal.tokens-preserved
tokens-preserved c =
    let at = (goal.at.tokens-preserved c).After-step_after in
    token-read _ _ c.tokens.is_open c.tokens.rest.now _ _ c.tokens.invariant c.in-Onward.now_open
    c.in-Some.others.now (token at) _ _ c.in-Some.ensures c.in-Onward.ensures
    (other-passed c.args.most _ _ (token at) c.tokens.invariant.stored (none at)) (counted at)

pub returns : goal.returns
returns c = entry-stopped _ _ c.tokens.is_open c.tokens.rest.now _ _ c.tokens.invariant _ _
    (reads-stop _ _ c.in_default.ensures) refl (omega arith)
