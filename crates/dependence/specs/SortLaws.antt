-- Laws of the sorts of conflict, for the layers above: they use these and never the definition's text.
use Rattle.std.specs.Prelude.{ℕ, ◌<◌, Bool, ◌&&◌, ◌||◌, ◌≡◌, Option, Some, None}
use Rattle.std.specs.Option.{is_some}
use Rattle.std.proofs.Math.Bool.{true, false, not, and_assoc}
use Rattle.std.proofs.Math.Path.{refl, sym}
use Rattle.std.proofs.Common.{ap, ◌∙◌, eqb-true, eq-eqb}
use Rattle.std.proofs.Math.Dec.{eqb}
use Rattle.laws.specs.SearchLaws.{any_same, any_or, any_find, any_found, if-or, clash, and_left, and_right, and_false}
use Rattle.dependence.specs.declared.Access.{Access}
use Rattle.dependence.specs.declared.Dependence.{Dependence}
use Rattle.dependence.specs.declared.Dependence.TheVariants as sort
use Rattle.dependence.specs.declared.Job.{Job}
use Rattle.dependence.specs.Job.{is_read, in_use, access_at}
use Rattle.dependence.specs.Conflict.{touches_at, touches, conflict_at, conflicts}
use Rattle.dependence.specs.ConflictLaws.{conflicts_symmetric}
use Rattle.dependence.specs.Sort.{may_write, names_at, names_cell, may_write_at, may_write_cell, flows_at, flows, overwrites_at, overwrites, sort_by, sort_of, number_of}

-- An access that may write conflicts with every access to its cell,
pub touches_named : (access : Access) (job : Job) → is_read access.mode ≡ false → touches access job ≡ names_cell access.cell job
unfolding touches names_cell
touches_named access job e =
    any_same 4 (touches_at access job) (names_at access.cell job)
    (λ i l. rw e (same (in_use job i) (eqb access.cell (access_at job i).cell)))
  where
    same : (s t : Bool) → (s && (t && true)) ≡ (s && t)
    same true true = refl
    same true false = refl
    same false t = refl

-- and a read with every access that may write its cell.
touches_written : (access : Access) (job : Job) → is_read access.mode ≡ true → touches access job ≡ may_write_cell access.cell job
unfolding touches may_write_cell
touches_written access job e =
    any_same 4 (touches_at access job) (may_write_at access.cell job)
    (λ i l. rw e (sym (and_assoc (in_use job i) (eqb access.cell (access_at job i).cell) (may_write (access_at job i)))))

module _ (earlier later : Job) where
  -- So the mode of the earlier job's access decides which sort its conflict is of.

  pub write_flows : (i : ℕ) → is_read (access_at earlier i).mode ≡ false → flows_at earlier later i ≡ conflict_at earlier later i
  write_flows i w = rw (touches_named (access_at earlier i) later w, w)

  write_keeps : (i : ℕ) → is_read (access_at earlier i).mode ≡ false → overwrites_at earlier later i ≡ false
  write_keeps i w = rw w (and_false (in_use earlier i))

  pub read_overwritten : (i : ℕ) → is_read (access_at earlier i).mode ≡ true → overwrites_at earlier later i ≡ conflict_at earlier later i
  read_overwritten i r = rw (touches_written (access_at earlier i) later r, r)

  pub read_passes_nothing : (i : ℕ) → is_read (access_at earlier i).mode ≡ true → flows_at earlier later i ≡ false
  read_passes_nothing i r = rw r (and_false (in_use earlier i))

  -- Every conflict is one of the two, and there are no others.
  pub conflict_either : (i : ℕ) → conflict_at earlier later i ≡ (flows_at earlier later i || overwrites_at earlier later i)
  conflict_either i =
      if-or (is_read (access_at earlier i).mode)
      (λ r. rw (read_passes_nothing i r, read_overwritten i r))
      (λ w. rw (write_flows i w, write_keeps i w) (alone (conflict_at earlier later i)))
    where
      alone : (t : Bool) → t ≡ (t || false)
      alone true = refl
      alone false = refl

  pub conflicts_either : conflicts earlier later ≡ (flows earlier later || overwrites earlier later)
  unfolding conflicts flows overwrites
  conflicts_either =
      any_same 4 (conflict_at earlier later) (λ i. flows_at earlier later i || overwrites_at earlier later i) (λ i l. conflict_either i)
      ∙ any_or 4 (flows_at earlier later) (overwrites_at earlier later)

  -- When each sort comes.

  -- Sort 0 says that there is no conflict: sort 1 or 2 is a conflict as R20 has it.
  pub sort_conflicts : not (eqb (sort_of earlier later) 0) ≡ conflicts earlier later
  unfolding sort_of
  sort_conflicts = cases (flows earlier later) (overwrites earlier later) ∙ sym conflicts_either
    where
      cases : (s t : Bool) → not (eqb (sort_by s t) 0) ≡ (s || t)
      cases true t = refl
      cases false true = refl
      cases false false = refl

  -- Sort 1 comes where the later job names a cell that the earlier one may write,
  pub sort_one : eqb (sort_of earlier later) 1 ≡ flows earlier later
  unfolding sort_of
  sort_one = cases (flows earlier later) (overwrites earlier later)
    where
      cases : (s t : Bool) → eqb (sort_by s t) 1 ≡ s
      cases true t = refl
      cases false true = refl
      cases false false = refl

  -- and sort 2 where it does not, and may write a cell that the earlier one reads.
  pub sort_two : eqb (sort_of earlier later) 2 ≡ (not (flows earlier later) && overwrites earlier later)
  unfolding sort_of
  sort_two = cases (flows earlier later) (overwrites earlier later)
    where
      cases : (s t : Bool) → eqb (sort_by s t) 2 ≡ (not s && t)
      cases true t = refl
      cases false true = refl
      cases false false = refl

-- The code names a sort just where the two conflict.
pub named_conflicts : (found : Option Dependence) (earlier later : Job) → number_of found ≡ sort_of earlier later → is_some found ≡ conflicts earlier later
named_conflicts found earlier later e = named found ∙ ap (λ n. not (eqb n 0)) e ∙ sort_conflicts earlier later
  where
    named : (found : Option Dependence) → is_some found ≡ not (eqb (number_of found) 0)
    named None = refl
    named (Some sort.Flow) = refl
    named (Some sort.Anti) = refl

-- What a conflict of sort 1 is made of: a used place of each job, one cell, and the earlier job may write it.
pub record Flow (earlier later : Job) : Type 0 where
  pub from : ℕ
  pub to : ℕ
  pub from_place : from < 4
  pub to_place : to < 4
  pub from_used : in_use earlier from ≡ true
  pub to_used : in_use later to ≡ true
  pub writes : may_write (access_at earlier from) ≡ true
  pub same : (access_at earlier from).cell ≡ (access_at later to).cell

pub sort_one_flow : (earlier later : Job) → sort_of earlier later ≡ 1 → Flow earlier later
unfolding flows names_cell
sort_one_flow earlier later e =
    let f = any_find 4 (flows_at earlier later) (sym (sort_one earlier later) ∙ eq-eqb (sort_of earlier later) 1 e) in
    let i = f.place in
    let write = may_write (access_at earlier i) in
    let named = names_cell (access_at earlier i).cell later in
    let both = and_right (in_use earlier i) (write && named) f.holds in
    let g = any_find 4 (names_at (access_at earlier i).cell later) (and_right write named both) in
    let k = g.place in
    let equal = eqb (access_at earlier i).cell (access_at later k).cell in
    record {
      from = i;
      to = k;
      from_place = f.below;
      to_place = g.below;
      from_used = and_left (in_use earlier i) (write && named) f.holds;
      to_used = and_left (in_use later k) equal g.holds;
      writes = and_left write named both;
      same = eqb-true (access_at earlier i).cell (access_at later k).cell (and_right (in_use later k) equal g.holds);
    }

pub flow_sort_one : (earlier later : Job) → Flow earlier later → sort_of earlier later ≡ 1
unfolding flows names_cell
flow_sort_one earlier later s =
    eqb-true (sort_of earlier later) 1
    (sort_one earlier later
    ∙ any_found 4 s.from (flows_at earlier later) s.from_place
    (rw (s.from_used, s.writes)
    (any_found 4 s.to (names_at (access_at earlier s.from).cell later) s.to_place
    (rw s.to_used (eq-eqb (access_at earlier s.from).cell (access_at later s.to).cell s.same)))))

-- A conflict of sort 2, with the two jobs in the other order, is one of sort 1: which job is the earlier matters.
pub sort_two_exchanged : (earlier later : Job) → sort_of earlier later ≡ 2 → sort_of later earlier ≡ 1
unfolding overwrites may_write_cell
sort_two_exchanged earlier later e =
    let t = sym (sort_two earlier later) ∙ eq-eqb (sort_of earlier later) 2 e in
    let f = any_find 4 (overwrites_at earlier later) (and_right (not (flows earlier later)) (overwrites earlier later) t) in
    let i = f.place in
    let read = is_read (access_at earlier i).mode in
    let written = may_write_cell (access_at earlier i).cell later in
    let g =
    any_find 4 (may_write_at (access_at earlier i).cell later)
    (and_right read written (and_right (in_use earlier i) (read && written) f.holds)) in
    let k = g.place in
    let equal = eqb (access_at earlier i).cell (access_at later k).cell in
    let named = and_left (in_use later k && equal) (may_write (access_at later k)) g.holds in
    flow_sort_one later earlier
    (record {
      from = k;
      to = i;
      from_place = g.below;
      to_place = f.below;
      from_used = and_left (in_use later k) equal named;
      to_used = and_left (in_use earlier i) (read && written) f.holds;
      writes = and_right (in_use later k && equal) (may_write (access_at later k)) g.holds;
      same = sym (eqb-true (access_at earlier i).cell (access_at later k).cell (and_right (in_use later k) equal named));
    })

-- Two jobs conflict just where a height may flow from one to the other, whichever is the earlier.
pub conflicts_flows : (a b : Job) → conflicts a b ≡ (flows a b || flows b a)
conflicts_flows a b =
    if-or (flows a b)
    (λ t. conflicts_either a b ∙ rw t)
    (λ f.
    if-or (flows b a)
    (λ u. conflicts_symmetric a b ∙ conflicts_either b a ∙ rw (f, u))
    (λ g.
    conflicts_either a b
    ∙ rw (f, g)
    (if-or (overwrites a b)
    (λ o.
    let two = eqb-true (sort_of a b) 2 (sort_two a b ∙ rw (f, o)) in
    clash (sym (sort_one b a) ∙ eq-eqb (sort_of b a) 1 (sort_two_exchanged a b two)) g)
    (λ n. n))))
