-- What a run over lines has done when its input is read, or when a device has failed.
use Rattle.dns_tools.proofs.Common.{◌≡◌, ◌≢◌, ℕ, ◌+◌, ◌-◌, ◌^◌, ◌<◌, ◌≤◌, Bool, ◌&&◌, ◌⊎◌, inl, inr, [], ◌∷◌, ◌++◌, length, take, Option, Some, None, Result, Ok, Err, IsErrAnd, refl, sym, ap, ◌∙◌, subst, arith, append_assoc, append-nil, length-append, is_some, take_all, take-append-le, take-append-add, Appends, Consumes, IsAtEnd, Keeps, Octets, Appends-nil, Appends-trans, Consumes-trans, Consumes-kept, lines, line_ends, ended_lines, message_answer, line_answers, are_messages, AppendsBeginning, beginning_of_second, Session, Kept, IsFresh, Progress, Begun, IsInput, LinesAnswered, HasAnsweredLines, HasAnsweredEnded, HasBegunAnswers, Grows, KeepsUp, hex_octets, kept_line, length-take, Stop, nil_from_length}
use Rattle.dns_tools.proofs.KeptLines.{line_alone, lines_nil}
use Rattle.dns_tools.proofs.LineRuns.{one_answer, one_flag, progress_none}

-- All lines of an input were answered.
pub record Answered (reply : Octets → Option Octets) (held holds : Option Octets) (x : Octets)
    (passes : Bool) : Type 0 where
  pub written : Appends held holds (line_answers reply (lines x))
  pub passes_is : passes ≡ are_messages (lines x)

-- octets were read, and `left` more may be
pub record Reading (reply : Octets → Option Octets) (a b x y : Option Octets) (left : ℕ) (k : Kept)
    : Type 0 where
  pub given : Octets
  pub count : length given + left ≡ 2 ^ 64 - 1
  pub read : Consumes a b given
  pub progress : Progress reply x y given k
  pub keeps_up : KeepsUp reply x y given

front_lines : (front : Octets) → line_ends front ≡ 0 → length front ≢ 0 → lines front ≡ front ∷ []
front_lines [] e some = absurd (some refl)
front_lines (o ∷ front) e some = line_alone o front e

-- some of a line is kept if and only if the line is not empty
kept_length : (front line : Octets) → line ≡ kept_line front
    → (length line ≡ 0 → length front ≡ 0) × (length line ≢ 0 → length front ≢ 0)
kept_length front line e =
    let long = ap length e ∙ length-take 131071 front in
    (λ none. omega (arith, long, none), λ some none. some (omega (arith, long, none)))

-- the lines of an input that was read: those that have ended, and the last one if some of it is
-- kept
module _ (reply : Octets → Option Octets) (x y : Option Octets) (input : Octets) (k : Kept)
    (p : Progress reply x y input k) where
  whole_lines : lines input ≡ p.ended ++ lines p.front
  whole_lines =
      ap lines (sym (append-nil input)) ∙ p.same []
      ∙ ap (λ z. p.ended ++ lines z) (append-nil p.front)

  pub finished_empty : length k.line ≡ 0 → Answered reply x y input k.passes
  finished_empty none =
      let all : p.ended ≡ lines input =
      sym (whole_lines ∙ ap (λ z. p.ended ++ lines z) (nil_from_length p.front
      ((kept_length p.front k.line p.kept).0 none))
      ∙ ap (λ z. p.ended ++ z) lines_nil ∙ append-nil p.ended) in
      record {
        written = subst (Appends x y) (ap (line_answers reply) all) p.written;
        passes_is = p.passes_is ∙ ap are_messages all;
      }

  module _ (some : length k.line ≢ 0) where
    all_lines : p.ended ++ p.front ∷ [] ≡ lines input
    all_lines =
        sym (whole_lines ∙ ap (λ l. p.ended ++ l)
        (front_lines p.front p.none_ended ((kept_length p.front k.line p.kept).1 some)))

    all_answers : line_answers reply p.ended ++ message_answer reply (hex_octets k.line)
        ≡ line_answers reply (lines input)
    all_answers = one_answer reply p.ended p.front k p.kept ∙ ap (line_answers reply) all_lines

    pub finished_line : (z : Option Octets) (passes : Bool)
        → Appends y z (message_answer reply (hex_octets k.line))
        → passes ≡ (k.passes && is_some (hex_octets k.line)) → Answered reply x z input passes
    finished_line z passes written now = record {
      written = subst (Appends x z) all_answers (Appends-trans x y z _ _ p.written written);
      passes_is =
          one_flag reply p.ended p.front k p.kept passes now p.passes_is
          ∙ ap are_messages all_lines;
    }

    pub finished_begun : (z : Option Octets) → AppendsBeginning y z (message_answer reply
        (hex_octets k.line)) → AppendsBeginning x z (line_answers reply (lines input))
    finished_begun z begun =
        subst (AppendsBeginning x z) all_answers (beginning_of_second x y z _ _ p.written begun)

  -- the answers to all lines that have ended were written
  all_sent : Appends x y (line_answers reply (ended_lines input))
  all_sent = grind (arith, whole_lines, take-append-le, lines, take_all)

-- the input is all that the source gave, or the greatest number of octets
pub input_of : (a b : Option Octets) (input : Octets) (left : ℕ) → length input + left ≡ 2 ^ 64 - 1
    → Consumes a b input → (left ≡ 0) ⊎ IsAtEnd b → IsInput a input
input_of None b input left count read over = tt
input_of (Some x) None input left count read over = absurd read
input_of (Some x) (Some y) input left count read (inl none) =
    sym (ap (take (2 ^ 64 - 1)) read ∙ take-append-le (2 ^ 64 - 1) input y
    (omega (arith, count, none)) ∙ take_all (2 ^ 64 - 1) input (omega (arith, count)))
input_of (Some x) (Some y) input left count read (inr end) =
    sym (ap (take (2 ^ 64 - 1)) (read ∙ ap (λ z. input ++ z) end ∙ append-nil input)
    ∙ take_all (2 ^ 64 - 1) input (omega (arith, count)))

-- what was read is a prefix of an input
rest_of : (a b : Option Octets) (given : Octets)
    → Consumes a b given → length given ≤ 2 ^ 64 - 1 → (rest : Octets) × IsInput a (given ++ rest)
rest_of None b given read within = ([], tt)
rest_of (Some x) None given read within = absurd read
rest_of (Some x) (Some y) given read within =
    let n : 2 ^ 64 - 1 ≡ length given + (2 ^ 64 - 1 - length given) = omega (arith, within) in (
      take (2 ^ 64 - 1 - length given) y,
      sym (ap (take (2 ^ 64 - 1)) read
          ∙ ap (λ n. take n (given ++ y)) n ∙ take-append-add given y (2 ^ 64 - 1 - length given)),
    )

pub begun_answers : (reply : Octets → Option Octets) (a b x y : Option Octets) (given : Octets)
    → Consumes a b given → length given ≤ 2 ^ 64 - 1 → Begun reply x y given → KeepsUp
    reply x y given → HasBegunAnswers reply (record { unread = a; left = b; held = x; holds = y })
begun_answers reply a b x y given read within begun keeps_up =
    let rest = rest_of a b given read within in
    record {
      input = given ++ rest.0;
      is_input = rest.1;
      written = begun rest.0;
      given = given;
      read = read;
      keeps_up = keeps_up;
    }

-- the answers keep up with the pieces
keeps_up_none : (reply : Octets → Option Octets) (x : Option Octets) → KeepsUp reply x x []
unfolding lines
keeps_up_none reply x = record {
  before = [];
  last = [];
  parts = refl;
  piece = omega arith;
  more = [];
  written = Appends-nil x;
}

keeps_up_grown : (reply : Octets → Option Octets) (x y z : Option Octets) (given : Octets)
    → Grows y z → KeepsUp reply x y given → KeepsUp reply x z given
keeps_up_grown reply x y z given (bs, grown) k =
    let due = line_answers reply (ended_lines k.before) in
    record {
      before = k.before;
      last = k.last;
      parts = k.parts;
      piece = k.piece;
      more = k.more ++ bs;
      written = subst (Appends x z)
          (append_assoc due k.more bs) (Appends-trans x y z (due ++ k.more) bs k.written grown);
    }

keeps_up_next : (reply : Octets → Option Octets) (x y z : Option Octets) (given front : Octets)
    (k : Kept) → Grows y z → length front ≤ 65536 → Progress reply x y given k
    → KeepsUp reply x z (given ++ front)
keeps_up_next reply x y z given front k (bs, grown) few p = record {
  before = given;
  last = front;
  parts = refl;
  piece = few;
  more = bs;
  written = Appends-trans x y z (line_answers reply (ended_lines given)) bs
      (all_sent reply x y given k p) grown;
}

-- The state of a run when it begins, goes on, ends and stops.

pub reading_none : (reply : Octets → Option Octets) (a x : Option Octets) (k : Kept) → IsFresh k
    → Reading reply a a x x (2 ^ 64 - 1) k
reading_none reply a x k fresh = grind (arith, progress_none, keeps_up_none)

-- a piece was read and taken, or the sink failed meanwhile
module _ (r s : Octets → Option Octets) (a b c x y z : Option Octets) (left count : ℕ)
    (octets front : Octets) (k : Kept) (same : s ≡ r) (is : octets ≡ front)
    (len : length front ≡ count) (within : count ≤ left) (few : count ≤ 65536)
    (more : Consumes b c front) (grows : Grows y z) (reading : Reading r a b x y left k) where
  keeps : KeepsUp r x z (reading.given ++ front)
  keeps =
      keeps_up_next r x y z reading.given front k grows (omega (arith, len, few)) reading.progress

  read : Consumes a c (reading.given ++ front)
  read = Consumes-trans a b c reading.given front reading.read more

  pub reading_take : (n : Kept) → ((h : Option Octets) (i : Octets)
      → Progress s h y i k → Progress s h z (i ++ octets) n) → Reading r a c x z (left - count) n
  reading_take n step = grind (arith, length-append, read, keeps)

  pub taking_begun :
      ((h : Option Octets) (i : Octets) → Progress s h y i k → Begun s h z (i ++ octets))
      → HasBegunAnswers r (record { unread = a; left = c; held = x; holds = z })
  taking_begun step =
      let here = subst (λ q. (h : Option Octets) (i : Octets) → Progress q h y i k
      → Begun q h z (i ++ octets)) same step in
      let begun : Begun r x z (reading.given ++ front) =
      subst (λ o. Begun r x z (reading.given ++ o)) is (here x reading.given reading.progress) in
      let all : length (reading.given ++ front) ≤ 2 ^ 64 - 1 =
      omega (arith, reading.count, len, within, length-append reading.given front) in
      begun_answers r a c x z (reading.given ++ front) read all begun keeps

-- the source failed
pub reading_failed : (reply : Octets → Option Octets) (a b c x y : Option Octets) (left : ℕ)
    (k : Kept) → 0 < left → Keeps b c → Reading reply a b x y left k
    → HasAnsweredEnded reply (record { unread = a; left = c; held = x; holds = y })
reading_failed reply a b c x y left k some keeps r = record {
  given = r.given;
  fewer = omega (arith, r.count, some);
  read = Consumes-kept a b c r.given r.read keeps;
  written = all_sent reply x y r.given k r.progress;
}

-- the input was read, and only what is kept of it remains to be answered
pub record AllRead
    (r s : Octets → Option Octets) (a b x y : Option Octets) (k : Kept) : Type 0 where
  pub task : s ≡ r
  pub input : Octets
  pub is_input : IsInput a input
  pub read : Consumes a b input
  pub progress : Progress s x y input k
  pub keeps_up : KeepsUp r x y input

-- the greatest number of octets was read
pub all_read : (r s : Octets → Option Octets) (a b x y : Option Octets) (left : ℕ) (k : Kept)
    → s ≡ r → left ≡ 0 → Reading r a b x y left k → AllRead r s a b x y k
all_read r s a b x y left k task none reading = record {
  task = task;
  input = reading.given;
  is_input = input_of a b reading.given left reading.count reading.read (inl none);
  read = reading.read;
  progress = subst (λ q. Progress q x y reading.given k) (sym task) reading.progress;
  keeps_up = reading.keeps_up;
}

-- a read gave nothing more
pub all_given : (r s : Octets → Option Octets) (a b c x y : Option Octets) (left count : ℕ)
    (buf : Octets) (k : Kept) → s ≡ r → Consumes b c (take count buf) → count ≡ 0 → IsAtEnd c
    → Reading r a b x y left k → AllRead r s a c x y k
all_given r s a b c x y left count buf k task more none end reading =
    let nothing : Consumes b c [] = subst (λ m. Consumes b c (take m buf)) none more in
    let read : Consumes a c reading.given =
    subst (Consumes a c) (append-nil reading.given)
    (Consumes-trans a b c reading.given [] reading.read nothing) in
    record {
      task = task;
      input = reading.given;
      is_input = input_of a c reading.given left reading.count read (inr end);
      read = read;
      progress = subst (λ q. Progress q x y reading.given k) (sym task) reading.progress;
      keeps_up = reading.keeps_up;
    }

-- the last line was answered, or a prefix of its answer was written
module _ (r s : Octets → Option Octets) (a b x y z : Option Octets) (k : Kept)
    (all : AllRead r s a b x y k) where
  pub all_answered : (passes : Bool)
      → ((h : Option Octets) (i : Octets) → Progress s h y i k → Answered s h z i passes)
      → HasAnsweredLines r (record { unread = a; left = b; held = x; holds = z }) passes
  all_answered passes step =
      let last = step x all.input all.progress in
      record {
        input = all.input;
        is_input = all.is_input;
        read = all.read;
        written = subst (λ q. Appends x z (line_answers q (lines all.input))) all.task last.written;
        passes_is = last.passes_is;
      }

  pub all_begun : ((h : Option Octets) (i : Octets) → Progress s h y i k
      → AppendsBeginning h z (line_answers s (lines i))) → Grows y z
      → HasBegunAnswers r (record { unread = a; left = b; held = x; holds = z })
  all_begun step grows = record {
    input = all.input;
    is_input = all.is_input;
    written = subst (λ q. AppendsBeginning x z (line_answers q (lines all.input))) all.task
        (step x all.input all.progress);
    given = all.input;
    read = all.read;
    keeps_up = keeps_up_grown r x y z all.input grows all.keeps_up;
  }

-- a device failed, and the run's result says so
pub stopped : (e : Stop) (reply : Octets → Option Octets) (s : Session) (result : Result Bool Stop)
    → IsErrAnd result (λ stop. stop ≡ e)
    → LinesAnswered reply s (Err e) → LinesAnswered reply s result
stopped e reply s (Ok passes) h b = absurd h
stopped e reply s (Err stop) h b = subst (λ e. LinesAnswered reply s (Err e)) (sym h) b
