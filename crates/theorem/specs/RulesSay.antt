-- From the rules' test on the ledger to what the model says of its state: ready jobs.
use Rattle.std.specs.Prelude.{ℕ, zero, suc, ◌<◌, Bool, true, false, not, ◌&&◌, List, ◌≡◌, refl, ℤ}
use Rattle.std.proofs.Common.{arith, sym, ◌∙◌, ne_eqb}
use Rattle.laws.specs.Search.{any_below}
use Rattle.laws.specs.SearchLaws.{any_fails, clash, not_true}
use Rattle.dependence.specs.Job.{is_read, in_use, access_at}
use Rattle.dependence.specs.Conflict.{conflicts}
use Rattle.dependence.specs.ConflictLaws.{writer_conflicts}
use Rattle.rules.specs.Speculation.{waits, is_ready}
use Rattle.model.specs.State.{Use, absent, reads, writes, maybe, names, uses_conflict}
use Rattle.model.specs.State.{Ready}
use Rattle.model.specs.StateLaws.{written_named}
use Rattle.claims.specs.Ledger.{Ledger}
use Rattle.claims.specs.Ledger.{is_counted}
use Rattle.claims.specs.Enter.{snapshot_of_ledger}
use Rattle.theorem.specs.View.{use_of_mode, use_of, state_of, progress_committed}
use Rattle.theorem.specs.View.{mode_may_write}
use Rattle.theorem.specs.View.{place_of}

-- Two uses that conflict: both jobs name the cell,
uses_named : (earlier later : Use) → uses_conflict earlier later ≡ true → (names earlier ≡ true) × (names later ≡ true)
unfolding uses_conflict names
uses_named absent later e = clash e refl
uses_named reads later e = (refl, written_named later e)
uses_named writes later e = (refl, e)
uses_named maybe later e = (refl, e)

-- and not both only read it.
uses_writer : (earlier later : ℕ) → uses_conflict (use_of_mode earlier) (use_of_mode later) ≡ true
    → (is_read earlier && is_read later) ≡ false
unfolding uses_conflict use_of_mode
uses_writer zero later e = mode_may_write later e
uses_writer (suc earlier) later e = rw (ne_eqb (suc earlier) 0 (λ q. omega arith))

-- A conflicting job that is not waited for is settled.
settled_or : (t : Bool) → (not t && true) ≡ false → t ≡ true
settled_or true e = refl
settled_or false e = sym e

-- A job that passes the rule's test is ready.
pub ready_says : (l : Ledger) (cells : List ℤ) (j : ℕ) → is_ready (snapshot_of_ledger l) j ≡ true → Ready (state_of l cells) j
unfolding is_ready
ready_says l cells j ready i x h conflict =
    let named = uses_named (use_of (l.job i) x) (use_of (l.job j) x) conflict in
    let p = place_of (l.job i) x named.0 in
    let q = place_of (l.job j) x named.1 in
    progress_committed (l.job i) (l.entry i).own (l.entry i).counted
    ∙ settled_or (is_counted (l.entry i))
    (rw (at_places p.place q.place p.below q.below p.used q.used (p.cell ∙ sym q.cell) p.mode
    q.mode) at
    (any_fails j i (waits (snapshot_of_ledger l) j) (not_true (any_below j (waits (snapshot_of_ledger l) j)) ready) h))
  where
    at_places : (m n : ℕ) → m < 4 → n < 4 → in_use (l.job i) m ≡ true → in_use (l.job j) n ≡ true
        → (access_at (l.job i) m).cell ≡ (access_at (l.job j) n).cell
        → use_of (l.job i) x ≡ use_of_mode (access_at (l.job i) m).mode
        → use_of (l.job j) x ≡ use_of_mode (access_at (l.job j) n).mode
        → conflicts (l.job i) (l.job j) ≡ true
    at_places m n hm hn um un same modem moden =
        writer_conflicts (l.job i) (l.job j) m n hm hn um un same
        (uses_writer (access_at (l.job i) m).mode (access_at (l.job j) n).mode (rw (modem, moden) at conflict))
