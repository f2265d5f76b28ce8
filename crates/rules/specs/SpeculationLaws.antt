-- What R43 to R45 come to: a judged guess stands or has fallen and never both, it stands just where it was handed the present
-- heights, and what is told of a job is what step 4 and step 0 on it go by (R118, R117).
use Rattle.std.specs.Prelude.{ℕ, ◌<◌, Bool, ◌&&◌, ◌≡◌, ℤ}
use Rattle.std.proofs.Math.Bool.{true, false, not}
use Rattle.std.proofs.Math.Path.{refl}
use Rattle.std.proofs.Math.Dec.{eqb}
use Rattle.std.proofs.lemmas.Bool.{not-false}
use Rattle.laws.specs.SearchLaws.{any_fails, any_absent, if-or}
use Rattle.laws.specs.SameHeightLaws.{same_is, is_same}
use Rattle.dependence.specs.declared.Job.{Job}
use Rattle.dependence.specs.Job.{in_use, access_at}
use Rattle.rules.specs.Values.{stale_at, is_stale}
use Rattle.rules.specs.Snapshot.{Snapshot, is_live}
use Rattle.rules.specs.Speculation.{is_ready, is_judged, handed_stale, is_valid, is_invalid, judged_as, validity}

-- Values of which none is stale are the heights of their cells, and the other way round.
module _ (job : Job) (handed cells : ℕ → ℤ) where
  abbrev Present : Type 0
  Present = (place : ℕ) → place < 4 → in_use job place ≡ true → handed place ≡ cells (access_at job place).cell

  pub fresh_present : is_stale job handed cells ≡ false → Present
  fresh_present fresh place below used =
      same_is (handed place) (cells (access_at job place).cell)
      (not-false _ (rw used at (any_fails 4 place (stale_at job handed cells) fresh below)))

  pub present_fresh : Present → is_stale job handed cells ≡ false
  present_fresh present =
      any_absent 4 (stale_at job handed cells)
      (λ place below.
      if-or (in_use job place)
      (λ used. rw (used, is_same (handed place) (cells (access_at job place).cell) (present place below used)))
      (λ unused. rw unused))

-- The guess of a job that is not ready neither stands nor has fallen.
pub unready_neither : (s : Snapshot) (j : ℕ) → is_ready s j ≡ false → (is_valid s j ≡ false) × (is_invalid s j ≡ false)
unfolding is_valid is_invalid
unready_neither s j unready = rw unready (refl, refl)

-- One that is judged stands where it has not fallen.
pub judged_else : (s : Snapshot) (j : ℕ) → is_valid s j ≡ (is_judged s j && not (is_invalid s j))
unfolding is_valid is_invalid
judged_else s j = cases (is_judged s j) (handed_stale s j)
  where
    cases : (judged stale : Bool) → (judged && not stale) ≡ (judged && not (judged && stale))
    cases true stale = refl
    cases false stale = refl

-- R45: the numbers 2 and 3 say just that the guess of a job that is not settled stands, and that it has fallen.
module _ (s : Snapshot) (j : ℕ) where
  pub stands_told : eqb (validity s j) 2 ≡ (not (s.committed j) && is_valid s j)
  unfolding is_valid validity
  stands_told = cases (s.committed j) (is_ready s j) (is_live (s.phase j)) (handed_stale s j)
    where
      cases : (settled ready live stale : Bool)
          → eqb (judged_as (live && not settled) ready stale) 2 ≡ (not settled && ((ready && live) && not stale))
      cases true ready true stale = refl
      cases true ready false stale = refl
      cases false true true true = refl
      cases false true true false = refl
      cases false false true stale = refl
      cases false true false stale = refl
      cases false false false stale = refl

  pub fallen_told : eqb (validity s j) 3 ≡ (not (s.committed j) && is_invalid s j)
  unfolding is_invalid validity
  fallen_told = cases (s.committed j) (is_ready s j) (is_live (s.phase j)) (handed_stale s j)
    where
      cases : (settled ready live stale : Bool)
          → eqb (judged_as (live && not settled) ready stale) 3 ≡ (not settled && ((ready && live) && stale))
      cases true ready true stale = refl
      cases true ready false stale = refl
      cases false true true true = refl
      cases false true true false = refl
      cases false false true stale = refl
      cases false true false stale = refl
      cases false false false stale = refl
