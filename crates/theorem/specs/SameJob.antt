-- Jobs that are the same are handed the same and write the same, whatever stands in the places that they do not use.
use Rattle.std.specs.Prelude.{ℕ, true, false, cond, not, ◌&&◌, ◌||◌, List, ◌≡◌, refl, eqb, leb, ℤ, set}
use Rattle.std.proofs.Common.{sym, ap, ◌∙◌, leb-false}
use Rattle.laws.specs.SearchLaws.{if-or, not_true}
use Rattle.laws.specs.FoldLaws.{fold_same}
use Rattle.dependence.specs.declared.Access.{Access}
use Rattle.dependence.specs.declared.Job.{Job}
use Rattle.dependence.specs.Job.{counts_as, in_use, access_at}
use Rattle.rules.specs.Values.{value_at, present_at, present_values, write_at, write_back}
use Rattle.claims.specs.SameEnd.{SameJob}

-- Jobs that differ in their predictions alone are the same.
pub predictions_alone : (job : Job) (predicted : List ℤ)
    → SameJob job
    (record {
      kind = job.kind;
      arity = job.arity;
      accesses = job.accesses;
      parameter = job.parameter;
      predicted = predicted;
    })
predictions_alone job predicted =
    record { kind_same = refl; parameter_same = refl; arity_same = refl; accesses_same = λ place h. refl }

module _ {a b : Job} (same : SameJob a b) where
  -- The same places are in use, with the same accesses.
  used_same : (place : ℕ) → in_use b place ≡ in_use a place
  used_same place = ap (λ (n : ℕ). not (leb n place)) (sym same.arity_same)

  access_same : (place : ℕ) → in_use a place ≡ true → access_at a place ≡ access_at b place
  access_same place used =
      same.accesses_same place (leb-false a.arity place (not_true (leb a.arity place) used))

  -- What is handed out of the cells.
  present_at_same : (cells : List ℤ) (place : ℕ) → present_at a cells place ≡ present_at b cells place
  present_at_same cells place =
      if-or (in_use a place)
      (λ used.
      let used-b : in_use b place ≡ true = used_same place ∙ used in
      rw (used, used-b) (ap (λ (x : Access). value_at cells x.cell) (access_same place used)))
      (λ free.
      let free-b : in_use b place ≡ false = used_same place ∙ free in
      rw (free, free-b))

  pub present_same : (cells : List ℤ) → present_values a cells ≡ present_values b cells
  present_same cells =
      rw (present_at_same cells 0, present_at_same cells 1, present_at_same cells 2, present_at_same cells 3)

  -- What is written into them.
  write_at_same : (values : List ℤ) (wrote place : ℕ) (cells : List ℤ)
      → write_at a values wrote place cells ≡ write_at b values wrote place cells
  write_at_same values wrote place cells =
      if-or (in_use a place)
      (λ used.
      let used-b : in_use b place ≡ true = used_same place ∙ used in
      rw (used, used-b)
      (ap
      (λ (x : Access).
      cond (eqb (counts_as x.mode) 1 || (eqb x.mode 2 && eqb wrote 1)) (set cells x.cell (value_at values place)) cells)
      (access_same place used)))
      (λ free.
      let free-b : in_use b place ≡ false = used_same place ∙ free in
      rw (free, free-b))

  pub write_back_same : (values : List ℤ) (wrote : ℕ) (cells : List ℤ)
      → write_back a values wrote cells ≡ write_back b values wrote cells
  unfolding write_back
  write_back_same values wrote cells =
      fold_same 4 (write_at a values wrote) (write_at b values wrote) (write_at_same values wrote) cells
