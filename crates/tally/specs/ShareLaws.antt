-- Laws of the kept share (R77): when it is absent, that it is the quotient rounded down, and that a tally in balance has no
-- share above the whole.
use Rattle.std.specs.Prelude.{ℕ, ◌+◌, ◌*◌, ◌/◌, ◌<◌, ◌≤◌, ◌≢◌, ◌≡◌, eqb, None, Some}
use Rattle.std.proofs.Common.{arith, div-mul-le_self, div-lt_iff_lt-mul, sym, ◌∙◌, eqb-true, eq-eqb, ne_eqb}
use Rattle.std.proofs.Math.Nat.{lt-div-mul-add}
use Rattle.std.proofs.lemmas.Option.{same_Some, none-some}
use Rattle.std.proofs.lemmas.Bool.{eqb-false}
use Rattle.laws.specs.SearchLaws.{if-or}
use Rattle.tally.specs.declared.Tally.{Tally}
use Rattle.tally.specs.Tally.{Balanced}
use Rattle.tally.specs.Share.{kept_share}

module _ (t : Tally) where
  -- It is absent exactly where no guess was started.

  pub share_absent : t.started ≡ 0 → kept_share t ≡ None
  unfolding kept_share
  share_absent e = rw (eq-eqb t.started 0 e)

  pub share_present : t.started ≢ 0 → kept_share t ≡ Some (t.kept * 1000 / t.started)
  unfolding kept_share
  share_present n = rw (ne_eqb t.started 0 n)

  pub absent_means : kept_share t ≡ None → t.started ≡ 0
  absent_means e =
      if-or (eqb t.started 0)
      (λ none-started. eqb-true t.started 0 none-started)
      (λ some-started. absurd (none-some _ (sym e ∙ share_present (eqb-false t.started 0 some-started))))

  module _ (n : ℕ) (e : kept_share t ≡ Some n) where
    present_means : 0 < t.started
    present_means =
        if-or (eqb t.started 0)
        (λ none-started. absurd (none-some n (sym (share_absent (eqb-true t.started 0 none-started)) ∙ e)))
        (λ some-started. omega (arith, eqb-false t.started 0 some-started))

    is_quotient : t.kept * 1000 / t.started ≡ n
    is_quotient =
        same_Some _ n (sym (share_present (λ z. omega (arith, z, present_means))) ∙ e)

    -- So many thousandths were kept, and not one more.
    pub share_rounded : (n * t.started ≤ t.kept * 1000) × (t.kept * 1000 < n * t.started + t.started)
    share_rounded =
        rw (← is_quotient) (div-mul-le_self (t.kept * 1000) t.started, lt-div-mul-add present_means)

    -- Of a tally in balance no more are kept than were started.
    pub share_limit : Balanced t → n ≤ 1000
    share_limit balanced =
        let few : t.kept * 1000 < 1001 * t.started = omega (arith, balanced, present_means) in
        rw (← is_quotient) (omega (arith, (div-lt_iff_lt-mul present_means).1 few))
