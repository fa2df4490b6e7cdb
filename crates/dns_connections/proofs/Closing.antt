-- The exchanges that have ended, and the connections that are left.
use Rattle.dns_spec.proofs.Common.{◌≡◌, ℕ, ◌+◌, arith, All, All-append, All-cons, All-nil, Bool, List, [], ◌∷◌, ◌++◌, length, drop, Option, Some, None, refl, sym, ap, ◌∙◌, subst, append_assoc, append-nil, drop-append_seam, Octets, ZoneContents}
use Rattle.std.specs.Prelude.{count_by, is_some}
use Rattle.std.specs.Option.{option_to_list}
use Rattle.std.proofs.Math.Logic.{∥∥₁_elim}
use Rattle.std.proofs.lemmas.List.Sums.{sum_by-cons}
use Rattle.std.specs.Coded.{Coded, code_by, coded×, coded_list, coded_ℕ, coded_bool}
use base.Stored.{Coded-set}
use Rattle.slab.specs.Slab.{entries_from}
use Rattle.dns_connections.specs.Exchanges.{Exchange, WasServed, IsServed, HasClosed}

-- as many entries are left as slots have a value
pub entries_length : {T : Type 0} (key : ℕ) (slots : List (Option T))
    → length (entries_from key slots) ≡ count_by is_some slots
entries_length key [] = refl
entries_length key (None ∷ slots) = entries_length (key + 1) slots
entries_length key (Some value ∷ slots) =
    let one : count_by is_some (Some value ∷ slots) ≡ 1 + count_by is_some slots =
    sum_by-cons _ (Some value) slots in
    omega (arith, one, entries_length (key + 1) slots)

module _ (z : ZoneContents) (most : ℕ) where
  pub none_ended : (past : List Exchange) → HasClosed z most past past
  none_ended past = record {
    more = [];
    closed = sym (append-nil past);
    served = All-nil (WasServed z most);
  }

  pub one_ended : (past closed then : List Exchange) (e : Option Exchange)
      → then ≡ closed ++ option_to_list e → IsServed z most e → HasClosed z most past closed
      → HasClosed z most past then
  one_ended past closed then None is served h = record {
    more = h.more;
    closed = is ∙ append-nil closed ∙ h.closed;
    served = h.served;
  }
  one_ended past closed then (Some e) is served h = record {
    more = h.more ++ e ∷ [];
    closed = is ∙ ap (λ c. c ++ e ∷ []) h.closed ∙ append_assoc past h.more (e ∷ []);
    served = All-append (WasServed z most) h.more (e ∷ []) h.served
        (All-cons (WasServed z most) e [] served (All-nil (WasServed z most)));
  }

  octets : Coded Octets
  octets = coded_list coded_ℕ

  endings : Coded (List Exchange)
  endings = coded_list (code_by (Octets × (Octets × Bool)) (coded× octets (coded× octets coded_bool))
      (λ e. (e.received, (e.sent, e.over)))
      (λ p. record { received = p.0; sent = p.1.0; over = p.1.1 })
      (λ _. refl))

  later : (past new : List Exchange) → HasClosed z most past new → (h : List Exchange)
      × (h ≡ drop (length past) new) × (new ≡ past ++ h) × All (WasServed z most) h
  later past new h = (
    h.more,
    sym (ap (drop (length past)) h.closed ∙ drop-append_seam past h.more),
    h.closed,
    h.served,
  )

  after_all : (past new : List Exchange) → HasClosed z most past new
      → All (WasServed z most) (drop (length past) new)
  after_all past new h = let (more, is, all, served) = later past new h in
      subst (All (WasServed z most)) is served

  pub has_closed : (past new : List Exchange) → ∥ HasClosed z most past new ∥₁
      → HasClosed z most past new
  has_closed past new t = record {
    more = drop (length past) new;
    closed = ∥∥₁_elim t (Coded-set endings _ _) (λ h. let (more, is, all, served) = later past new h in
        all ∙ ap (λ m. past ++ m) is);
    served = λ k d few. record {
      prefix = ∥∥₁_elim t (Coded-set octets _ _) (λ h. (after_all past new h k d few).prefix);
      all = λ c. ∥∥₁_elim t (Coded-set octets _ _) (λ h. (after_all past new h k d few).all c);
    };
  }
