-- An accepted list of jobs is so many accepted calls that insert one, performed in order: a list of calls as demand 3 speaks of.
use Rattle.std.specs.Prelude.{ℕ, zero, suc, ◌+◌, true, List, [], ◌∷◌, ◌≡◌, refl, eqb}
use Rattle.std.proofs.Common.{arith, eq-eqb}
use Rattle.laws.specs.SearchLaws.{if-or, clash}
use Rattle.dependence.specs.declared.Job.{Job}
use Rattle.dependence.specs.Job.{job_at}
use Rattle.rules.specs.Call.{Call, insert}
use Rattle.engine.specs.declared.Batch.{Batch}
use Rattle.engine.specs.Form.{in_form}
use Rattle.engine.specs.Opening.{inserted}
use Rattle.engine.specs.Perform.{perform, performed, accepts}
use Rattle.engine.specs.InsertAll.{inserted_from, inserted_all}

-- The calls that insert the n jobs of the list from place k on, in order.
unfoldable pub insert_calls : List Job → ℕ → ℕ → List Call
insert_calls jobs k zero = []
insert_calls jobs k (suc n) = insert (job_at jobs k) ∷ insert_calls jobs (k + 1) n

from_performed : (before b : Batch) (jobs : List Job) (k n : ℕ) → (inserted_from before b jobs k n).refusal ≡ 0
    → ((inserted_from before b jobs k n).batch ≡ performed b (insert_calls jobs k n)) × (accepts b (insert_calls jobs k n) ≡ true)
unfolding inserted_from insert_calls performed accepts perform
from_performed before b jobs k zero e = (refl, refl)
from_performed before b jobs k (suc n) e =
    if-or (eqb (inserted b (job_at jobs k)).refusal 0)
    (λ t.
    let rest = from_performed before (inserted b (job_at jobs k)).batch jobs (k + 1) n (rw t at e) in
    (rw t rest.0, rw t rest.1))
    (λ f. clash (eq-eqb _ _ (rw f at e)) f)

pub insert_all_performed : (b : Batch) (jobs : List Job) (count : ℕ) → (inserted_all b jobs count).refusal ≡ 0
    → ((inserted_all b jobs count).batch ≡ performed b (insert_calls jobs 0 count)) × (accepts b (insert_calls jobs 0 count) ≡ true)
unfolding inserted_all
insert_all_performed b jobs count e =
    if-or (in_form b)
    (λ t. let all = from_performed b b jobs 0 count (rw t at e) in (rw t all.0, all.1))
    (λ f. let out : ◌≡◌ {A = ℕ} 32 0 = rw f at e in absurd (omega arith))

-- R81: a refused one changes nothing.

from_unchanged : (before b : Batch) (jobs : List Job) (k n : ℕ) → ((inserted_from before b jobs k n).refusal ≡ 0 → ⊥)
    → (inserted_from before b jobs k n).batch ≡ before
unfolding inserted_from
from_unchanged before b jobs k zero refused = absurd (refused refl)
from_unchanged before b jobs k (suc n) refused =
    if-or (eqb (inserted b (job_at jobs k)).refusal 0)
    (λ t. rw t (from_unchanged before (inserted b (job_at jobs k)).batch jobs (k + 1) n (λ e. refused (rw t e))))
    (λ f. rw f)

pub insert_all_unchanged : (b : Batch) (jobs : List Job) (count : ℕ) → ((inserted_all b jobs count).refusal ≡ 0 → ⊥)
    → (inserted_all b jobs count).batch ≡ b
unfolding inserted_all
insert_all_unchanged b jobs count refused =
    if-or (in_form b)
    (λ t. rw t (from_unchanged b b jobs 0 count (λ e. refused (rw t e))))
    (λ f. rw f)
