-- The tests on speculative runs as the code makes them, on the record's columns, and that they are the rules'.
use Rattle.std.specs.Prelude.{ℕ, ◌-◌, ◌<◌, ◌≤◌, Bool, false, cond, not, ◌&&◌, List, [], ◌∷◌, eqb, ℤ, get_or}
use Rattle.laws.specs.Search.{any_below}
use Rattle.dependence.specs.declared.Job.{Job}
use Rattle.dependence.specs.Job.{access_at}
use Rattle.walk.specs.declared.origins.Origins.{Origins}
use Rattle.rules.specs.Values.{value_at, value_for, presumed_values, is_stale}
use Rattle.rules.specs.Snapshot.{is_stored, is_live}
use Rattle.engine.specs.declared.Run.{Run}
use Rattle.engine.specs.Steps.{new_run}

-- R44, by whether the job is ready.
abbrev pub invalid_run : Bool → ℕ → Job → Run → List ℤ → Bool
invalid_run ready phase job run cells = (ready && is_live phase) && is_stale job (value_at run.handed) (value_at cells)

-- R115, of the sources given.
abbrev pub unusable_at : List ℕ → List ℕ → ℕ → Bool
unusable_at sources phases place =
    cond (eqb (get_or sources place 0) 0) false (not (is_stored (get_or phases (get_or sources place 0 - 1) 0)))

abbrev pub unusable_any : List ℕ → List ℕ → Bool
unusable_any sources phases = any_below 4 (unusable_at sources phases)

-- Each source is a job's place, or none.
abbrev pub SourcesHeld : List ℕ → Type 0
SourcesHeld sources = (place : ℕ) → place < 4 → get_or sources place 0 ≤ 128

-- What a place is handed, given its source, what is presumed there, and the source's job and report.
abbrev pub forwarded_at : Job → ℕ → ℕ → Job → Run → List ℤ → ℤ
forwarded_at job place source writer run presumed =
    cond (eqb source 0) (value_at presumed place) (value_for writer run.reported (access_at job place).cell)

-- The guess, given where its values come from, and the jobs that it takes from with their runs.
abbrev pub guess_from : Job → List ℤ → Origins → Job → Run → Job → Run → Job → Run → Job → Run → Run
guess_from job cells origins a x b y c z d w =
    new_run
    (forwarded_at job 0 (get_or origins.sources 0 0) a x (presumed_values job cells)
    ∷ forwarded_at job 1 (get_or origins.sources 1 0) b y (presumed_values job cells)
    ∷ forwarded_at job 2 (get_or origins.sources 2 0) c z (presumed_values job cells)
    ∷ forwarded_at job 3 (get_or origins.sources 3 0) d w (presumed_values job cells)
    ∷ [])
    origins.sources origins.bypassed
