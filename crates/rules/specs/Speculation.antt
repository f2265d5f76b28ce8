-- Ready jobs, and guesses that stand or have fallen, in a snapshot.
use Rattle.std.specs.Prelude.{ℕ, ◌-◌, Bool, false, cond, not, ◌&&◌, eqb}
use Rattle.laws.specs.Search.{any_below}
use Rattle.dependence.specs.Conflict.{conflicts}
use Rattle.rules.specs.Walk.{source_of, bypasses}
use Rattle.rules.specs.Values.{is_stale}
use Rattle.rules.specs.Snapshot.{Snapshot, is_stored, is_live}

-- R21: a job is ready when every earlier job that conflicts with it is settled.
abbrev pub waits : Snapshot → ℕ → ℕ → Bool
waits s j i = not (s.committed i) && conflicts (s.job i) (s.job j)

unfoldable pub is_ready : Snapshot → ℕ → Bool
is_ready s j = not (any_below j (waits s j))

-- R41, R42: where a guess of job j, started now, takes the value at a place from, and the jobs that it looks past.
abbrev pub source_now : Snapshot → ℕ → ℕ → ℕ
source_now s j place = source_of s.job s.committed j place

abbrev pub bypassed_now : Snapshot → ℕ → ℕ → Bool
bypassed_now s j i = bypasses s.job s.committed j i

-- R43: a guess that is out or stored is judged once its job is ready.
abbrev pub is_judged : Snapshot → ℕ → Bool
is_judged s j = is_ready s j && is_live (s.phase j)

-- A value that the guess of job j was handed is not the height that its cell holds now.
abbrev pub handed_stale : Snapshot → ℕ → Bool
handed_stale s j = is_stale (s.job j) (s.handed j) s.cells

-- R43, R44: judged, it stands or has fallen. (Standing is `valid` here, and fallen `invalid`.)
unfoldable pub is_valid : Snapshot → ℕ → Bool
is_valid s j = is_judged s j && not (handed_stale s j)

unfoldable pub is_invalid : Snapshot → ℕ → Bool
is_invalid s j = is_judged s j && handed_stale s j

-- R45: how the guess of job j is judged: 0 there is none to judge, 1 it is not yet to be judged, 2 it stands, 3 it has fallen.
-- A settled job has none to judge.
abbrev pub judged_as : Bool → Bool → Bool → ℕ
judged_as pending ready stale = cond pending (cond ready (cond stale 3 2) 1) 0

unfoldable pub validity : Snapshot → ℕ → ℕ
validity s j = judged_as (is_live (s.phase j) && not (s.committed j)) (is_ready s j) (handed_stale s j)

-- R115: a guess of job j cannot start, since a job that it would take from has no stored guess.
abbrev pub unusable : Snapshot → ℕ → Bool
unusable s source = cond (eqb source 0) false (not (is_stored (s.phase (source - 1))))

abbrev pub source_missing : Snapshot → ℕ → Bool
source_missing s j = any_below 4 (λ place. unusable s (source_now s j place))
