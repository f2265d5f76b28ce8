-- `repeats` meets its contract: each access in use is asked whether its cell stands before.
use Rattle.std.proofs.Common.{ℕ, Bool, List, ◌≡◌, refl, rules, tests, arith, ap, sym, eqb, min, length, length-take, get_or, take, ◌∙◌}
use Rattle.std.specs.List.{list_any, enumerate_from}
use Rattle.std.proofs.lemmas.Iterator.{YieldsList-from_slice}
use Rattle.std.proofs.lemmas.Iterator.Consumers.{YieldsList-from_enumerate}
use Rattle.std.proofs.lemmas.Iterator.Search.{any_from_yields_List}
use Rattle.laws.specs.Search.{any_below}
use Rattle.laws.specs.SearchLaws.{any_same}
use Rattle.dependence.specs.declared.Access.{Access}
use Rattle.dependence.specs.declared.Job.{Job}
use Rattle.dependence.specs.Job.{no_access}
use Rattle.dependence.specs.PlaceLaws.{any_first, any_in_use, any_numbered, used_at}
use Rattle.admission.specs.Admission.{cell_before, cell_twice}
use Rattle.admission.proofs.repeats.Goals as goal

abbrev before : List Access → ℕ × Access → Bool
before used x = list_any (λ access. eqb access.cell x.1.cell) (take x.0 used)

twice : (job : Job) → length job.accesses ≡ 4
    → list_any (before (take job.arity job.accesses)) (enumerate_from 0 (take job.arity job.accesses)) ≡ cell_twice job
twice job four =
    let used = take job.arity job.accesses in
    let many : length used ≡ min job.arity 4 = rw four at (length-take job.arity job.accesses) in
    let same = λ (i : ℕ) (k : ℕ). eqb (get_or used k no_access).cell (get_or used i no_access).cell in
    let earlier = λ (i : ℕ). any_below i (cell_before job i) in
    any_numbered (before used) used no_access
    ∙ any_same (length used) (λ i. before used (i, get_or used i no_access)) earlier
    (λ i l.
    let at = used_at job.accesses used job.arity i no_access refl l in
    any_first (λ access. eqb access.cell (get_or used i no_access).cell) used no_access i (omega (arith, l))
    ∙ any_same i (same i) (cell_before job i)
    (λ k m. let first = used_at job.accesses used job.arity k no_access refl (omega (arith, l, m)) in rw (first.2, at.2)))
    ∙ ap (λ n. any_below n earlier) many
    ∙ sym (any_in_use 4 job.arity earlier)

pub returns : goal.returns
returns c =
    let job = c.args.job in
    let used = take job.arity job.accesses in
    any_from_yields_List (before used) _ _ c.any.result c.any.ensures.ran (YieldsList-from_enumerate (YieldsList-from_slice used (cc)) (search rules))
    (λ x b q k. search (rules, tests))
    ∙ twice job (search rules)
