-- R41: what a guess is handed, found by going back through the earlier jobs that are not settled.
use Rattle.std.specs.Prelude.{ℕ, zero, suc, ◌≤◌, ◌<◌, ◌≡◌, refl, Bool, true, false, ℤ}
use Rattle.std.proofs.Common.{arith, ◌∙◌}
use Rattle.std.proofs.Math.Option.{Option, none, some}
use Rattle.laws.specs.SearchLaws.{clash}
use Rattle.model.specs.Cases.{at-or, none-some}
use Rattle.model.specs.State.{Use, absent, reads, writes, maybe, names, may_write, is_committed, Origin, report_at}
use Rattle.model.specs.State.{State, Open, Invariant}
use Rattle.model.specs.FormerRule.{Bypass, Source, forwarded, present}
use Rattle.model.specs.InvariantLaws.{present_is_before}

-- The walk at job i, which is settled or not and does this with the cell: it stops at an open writer, and goes on to
-- what it meets further back otherwise.
unfoldable pub stop_at : Bool → Use → ℕ → Option ℕ → Option ℕ
stop_at true mode i further = further
stop_at false absent i further = further
stop_at false reads i further = further
stop_at false writes i further = some i
stop_at false maybe i further = further

-- The writer at which the walk back from job k stops, for cell x: the nearest open one.
unfoldable pub source_below : State → ℕ → ℕ → Option ℕ
source_below s x zero = none
source_below s x (suc i) = stop_at (is_committed (s.progress i)) (s.uses i x) i (source_below s x i)

-- The first job after the source, and job 0 where there is none.
abbrev pub first_after : Option ℕ → ℕ
first_after none = 0
first_after (some w) = suc w

-- What the walk back from job k has met: a source is an open writer before k, and each open job after it that may
-- write the cell is a maybe-writer of it.
pub record Met (s : State) (x k : ℕ) (source : Option ℕ) : Type 0 where
  pub writer : (w : ℕ) → source ≡ some w → (w < k) × (s.uses w x ≡ writes) × (Open s w)
  pub others : (i : ℕ) → first_after source ≤ i → i < k → Open s i → may_write (s.uses i x) ≡ true → s.uses i x ≡ maybe

-- A job at which the walk does not stop.
met_further : (s : State) (x k : ℕ) (source : Option ℕ)
    → (Open s k → may_write (s.uses k x) ≡ true → s.uses k x ≡ maybe)
    → Met s x k source
    → Met s x (suc k) source
met_further s x k source here met = record {
  writer = λ w e. let found = met.writer w e in (omega arith, found.1, found.2);
  others = λ i a l o w. at-or i k
      (λ e. rw e (here (rw e at o) (rw e at w)))
      (λ e. met.others i a (omega arith) o w);
}

-- One job further back, with what it does at hand.
met_at : (s : State) (x k : ℕ) (c : Bool) (mode : Use) (source : Option ℕ)
    → is_committed (s.progress k) ≡ c
    → s.uses k x ≡ mode
    → Met s x k source
    → Met s x (suc k) (stop_at c mode k source)
unfolding stop_at may_write
met_at s x k true mode source e a met = met_further s x k source (λ o _. clash e o) met
met_at s x k false absent source e a met = met_further s x k source (λ _ w. cc) met
met_at s x k false reads source e a met = met_further s x k source (λ _ w. cc) met
met_at s x k false maybe source e a met = met_further s x k source (λ _ _. a) met
met_at s x k false writes source e a met = record {
  writer = λ w z. let n : k ≡ w = cc in (omega arith, cc, cc);
  others = λ i b c. absurd (omega arith);
}

-- The walk stops where it should.
pub source_met : (s : State) (x k : ℕ) → Met s x k (source_below s x k)
unfolding source_below
source_met s x zero = record { writer = λ w e. none-some refl e; others = λ i _ l. absurd (omega arith) }
source_met s x (suc k) = met_at s x k _ _ _ refl refl (source_met s x k)

-- This value is what is handed out at cell x: the stored report of the source, or else what the cell holds.
abbrev pub HandedFrom : State → ℕ → Option ℕ → ℤ → Type 0
HandedFrom s x none value = value ≡ s.cells x
HandedFrom s x (some w) value = report_at (s.speculation w) x ≡ some value

-- The origin of a guess of job j that is started now, at the cells that the job names.
pub record Gathered (s : State) (j : ℕ) (origin : Origin) : Type 0 where
  -- the source is where the walk stops
  pub walked : (x : ℕ) → names (s.uses j x) ≡ true → origin.source x ≡ source_below s x j
  -- the value is the source's
  pub value : (x : ℕ) → names (s.uses j x) ≡ true → HandedFrom s x (origin.source x) (origin.handed x)
  -- each maybe-writer that the walk met is among those looked past
  pub covers : (x i : ℕ)
      → names (s.uses j x) ≡ true
      → first_after (origin.source x) ≤ i
      → i < j
      → Open s i
      → s.uses i x ≡ maybe
      → origin.bypassed i ≡ true

-- Such an origin gives every value a source.
pub gathered_source : (s : State) (j : ℕ) (origin : Origin)
    → Invariant s → j < s.job_count → Open s j → Gathered s j origin
    → (x : ℕ) → names (s.uses j x) ≡ true → Source s j x origin
gathered_source s j origin inv l o new x n =
    cases (origin.source x) refl (new.value x n) (rw (new.walked x n) (source_met s x j))
  where
    bypass : Met s x j (origin.source x) → Bypass s j x origin (first_after (origin.source x))
    bypass met i a b w d = let m = met.others i a b d w in (m, new.covers x i n a b d m)

    cases : (source : Option ℕ)
        → origin.source x ≡ source
        → HandedFrom s x source (origin.handed x)
        → Met s x j (origin.source x)
        → Source s j x origin
    cases none e value met = present (value ∙ present_is_before s inv j x l o n) (rw e at (bypass met))
    cases (some w) e value met =
        let found = met.writer w e in forwarded w e found.0 found.1 value found.2 (rw e at (bypass met))
