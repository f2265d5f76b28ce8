-- The worked examples P1 to P9 and P11 to P20 as one table, shown by one theorem about the definitions.
-- The rows behind P20 are points of the same plans at which a call is refused, and a job of four accesses.
use Rattle.std.specs.Prelude.{ℕ, zero, suc, Bool, true, false, List, [], ◌∷◌, ◌≡◌, refl, ℤ, pos, negsuc, get_or}
use Rattle.laws.specs.Search.{any_below, least_below}
use Rattle.laws.specs.Fold.{fold_below, count_below}
use Rattle.laws.specs.Refusal.{first_of}
use Rattle.laws.specs.SameHeight.{same_height}
use Rattle.laws.specs.Rows.{AllHold, end, ◌also◌}
use Rattle.dependence.specs.declared.Access.{Access}
use Rattle.dependence.specs.declared.Job.{Job}
use Rattle.dependence.specs.Job.{no_access, no_predictions}
use Rattle.dependence.specs.Conflict.{touches, conflicts}
use Rattle.dependence.specs.Sort.{names_cell, may_write_cell, flows, overwrites, sort_of}
use Rattle.admission.specs.Admission.{kind_modes, job_refusal}
use Rattle.passes.specs.Chain.{longest}
use Rattle.kinds.specs.Kinds.{reported, table_of, result_of}
use Rattle.jobset.specs.JobSet.{bit, with_bit, has_job, with_job, reaches_to}
use Rattle.rules.specs.Values.{value_below, write_back}
use Rattle.rules.specs.Walk.{source_below}
use Rattle.rules.specs.Speculation.{is_ready, is_valid, is_invalid, validity}
use Rattle.rules.specs.Refusals.{refusal_of}
use Rattle.walk.specs.Sources.{set_of}
use Rattle.engine.specs.Form.{job_out, in_form}
use Rattle.engine.specs.Opening.{opened, with_inserted, inserted, with_sealed, sealed_with}
use Rattle.engine.specs.Steps.{with_job_changed, started_own, started_speculation, reported_own, reported_speculation, committed_by}
use Rattle.engine.specs.Perform.{perform}
use Rattle.engine.specs.Ask.{cell_refusal, asked_cell, job_ask_refusal, shown_job, asked_job, is_finished, asked_batch}
use Rattle.engine.specs.Chooser.{pick_below, chosen}
use Rattle.tally.specs.declared.Tally.{Tally}
use Rattle.tally.specs.Tally.{tally_below, given, tallied}
use Rattle.tally.specs.Examples.{numbers}
use Rattle.bypass.specs.declared.SetAnswer.{SetAnswer}
use Rattle.bypass.specs.Bypass.{no_jobs, shown_set, asked_speculation}
use Rattle.examples.specs.Plan.{Line, insertion, sealing, step, own_report, speculation_report, Plan, first, ◌then◌}
use Rattle.examples.specs.Plan.{answer_to, answers_to, answers_in, after_all, final, settled_in, held_in}

-- What a row says.
pub data Example : Type 0 where
  -- a job of the kind, with p, that is handed these values reports those, with the mark
  gives : ℕ → ℤ → List ℤ → List ℤ → ℕ → Example
  -- the two jobs conflict, or not
  conflict : Job → Job → Bool → Example
  -- the earlier and the later job, and the sort of their conflict
  sort : Job → Job → ℕ → Example
  -- the answers to the plan's lines
  answers : Plan → List ℕ → Example
  -- after the plan: the job, how it is settled, and its mark
  settled : Plan → ℕ → ℕ → ℕ → Example
  -- after the plan: the cell, and its height
  height : Plan → ℕ → ℤ → Example
  -- after the plan: the job, and the values handed to its run
  receives : Plan → ℕ → List ℤ → Example
  -- after the plan: the job, and how its guess is judged
  judged : Plan → ℕ → ℕ → Example
  -- after the plan: the tally, as jobs, guesses started, kept, thrown away, and the rest
  tally : Plan → Tally → Example
  -- after the plan: how many jobs there are, and whether the batch is finished
  held : Plan → ℕ → Bool → Example
  -- after the plan: the job, and what is told of the jobs that its guess looked past, then of the open ones among them
  past : Plan → ℕ → SetAnswer → SetAnswer → Example
  -- after the plan: the job whose guess is asked for, and the refusal
  not_told : Plan → ℕ → ℕ → Example
  -- after the plan: what the chooser names: a step, a job, and the length of its chain
  names : Plan → ℕ → ℕ → ℕ → Example
  -- after the plan: the chooser's refusal
  names_none : Plan → ℕ → Example
  -- after the plan: one line more, and the answer to it
  next : Plan → Line → ℕ → Example

abbrev pub Holds : Example → Type 0
Holds (gives kind p handed values mark) = result_of kind p handed ≡ reported values mark
Holds (conflict earlier later answer) = conflicts earlier later ≡ answer
Holds (sort earlier later number) = sort_of earlier later ≡ number
Holds (answers plan list) = answers_in plan ≡ list
Holds (settled plan j how mark) = settled_in (final plan) j ≡ record { how = how; mark = mark }
Holds (height plan x value) = (asked_cell (final plan) x).height ≡ value
Holds (receives plan j values) = (asked_job (final plan) j).handed ≡ values
Holds (judged plan j number) = (asked_job (final plan) j).validity ≡ number
Holds (tally plan numbers) = tallied (final plan) ≡ given numbers
Holds (held plan jobs finished) = held_in (final plan) ≡ record { jobs = jobs; finished = finished }
Holds (past plan j all left) = asked_speculation (final plan) j ≡ record { refusal = 0; bypassed = all; «open» = left }
Holds (not_told plan j answer) = (asked_speculation (final plan) j).refusal ≡ answer
Holds (names plan number j length) = chosen (final plan) ≡ record { refusal = 0; step = number; job = j; chain = length }
Holds (names_none plan answer) = chosen (final plan) ≡ record { refusal = answer; step = 0; job = 0; chain = 0 }
Holds (next plan line answer) = answer_to (final plan) line ≡ answer

-- The kinds by their names.
abbrev outside : ℕ
outside = 0

abbrev set : ℕ
set = 1

abbrev shift : ℕ
shift = 2

abbrev spike : ℕ
spike = 3

abbrev floor : ℕ
floor = 4

abbrev mean : ℕ
mean = 5

abbrev pair : ℕ
pair = 6

abbrev minus : ℕ → ℤ
minus zero = pos 0
minus (suc n) = negsuc n

-- R30: four values, and 0 in places not in use.
abbrev one : ℤ → List ℤ
one a = a ∷ pos 0 ∷ pos 0 ∷ pos 0 ∷ []

abbrev two : ℤ → ℤ → List ℤ
two a b = a ∷ b ∷ pos 0 ∷ pos 0 ∷ []

abbrev three : ℤ → ℤ → ℤ → List ℤ
three a b c = a ∷ b ∷ c ∷ pos 0 ∷ []

abbrev to : ℕ → ℕ → Access
to cell mode = record { cell = cell; mode = mode }

-- A job of one access.
abbrev accessing : ℕ → ℤ → Access → Job
accessing kind p a = record {
  kind = kind;
  arity = 1;
  accesses = a ∷ no_access ∷ no_access ∷ no_access ∷ [];
  parameter = p;
  predicted = no_predictions;
}

abbrev reader : ℕ → Job
reader cell = accessing outside (pos 0) (to cell 0)

abbrev writer : ℕ → Job
writer cell = accessing outside (pos 0) (to cell 1)

abbrev maybe_writer : ℕ → Job
maybe_writer cell = accessing outside (pos 0) (to cell 2)

-- A job of the kind, with p, on one cell, in the mode that the kind has for it.
abbrev job_on : ℕ → ℤ → ℕ → Job
job_on kind p cell = accessing kind p (to cell (get_or (kind_modes kind) 0 0))

-- P8: the worked plan.
abbrev plan8 : Plan
plan8 = record {
  heights = pos 1500 ∷ pos 1480 ∷ [];
  lines =
      insertion (job_on floor (pos 1400) 0)
      ∷ insertion (job_on shift (pos 20) 0)
      ∷ sealing 1
      ∷ step 0 0
      ∷ step 1 1
      ∷ step 3 1
      ∷ step 2 0
      ∷ step 4 1
      ∷ [];
}

-- P12: a job that comes when P8's batch is finished, and the same job when its two runs are out.
abbrev late : Line
late = insertion (job_on shift (pos 5) 0)

abbrev plan_late : Plan
plan_late = plan8 then late then step 0 2 then step 2 2

abbrev plan_meanwhile : Plan
plan_meanwhile = first 5 plan8 then late then step 3 1 then step 1 2 then step 3 2 then step 2 0 then step 4 1 then step 4 2

-- P9: a height below the floor. The floor's own run starts, both shifts are guessed, and the floor reports.
abbrev plan9 : Plan
plan9 = record {
  heights = pos 1380 ∷ [];
  lines =
      insertion (job_on floor (pos 1400) 0)
      ∷ insertion (job_on shift (pos 20) 0)
      ∷ insertion (job_on shift (pos 30) 0)
      ∷ sealing 1
      ∷ step 0 0
      ∷ step 1 1
      ∷ step 3 1
      ∷ step 1 2
      ∷ step 3 2
      ∷ step 2 0
      ∷ [];
}

-- P13: two floors and a pair maybe-write the cells that the mean reads. It is guessed first, and then they run in turn.
abbrev pair_of : ℕ → ℕ → Job
pair_of a b = record {
  kind = pair;
  arity = 2;
  accesses = to a 2 ∷ to b 2 ∷ no_access ∷ no_access ∷ [];
  parameter = pos 0;
  predicted = no_predictions;
}

abbrev mean_of : ℕ → ℕ → ℕ → Job
mean_of a b c = record {
  kind = mean;
  arity = 3;
  accesses = to a 1 ∷ to b 0 ∷ to c 0 ∷ no_access ∷ [];
  parameter = pos 0;
  predicted = no_predictions;
}

-- So many jobs, and the lowest of them.
abbrev jobs_from : ℕ → ℕ → SetAnswer
jobs_from size lowest = record { size = size; present = true; lowest = lowest }

abbrev plan13 : Plan
plan13 = record {
  heights = pos 1500 ∷ pos 1480 ∷ pos 0 ∷ [];
  lines =
      insertion (job_on floor (pos 1400) 0)
      ∷ insertion (job_on floor (pos 1400) 1)
      ∷ insertion (pair_of 0 1)
      ∷ insertion (mean_of 2 0 1)
      ∷ sealing 1
      ∷ step 1 3
      ∷ step 0 0
      ∷ step 2 0
      ∷ step 0 1
      ∷ step 2 1
      ∷ step 0 2
      ∷ step 2 2
      ∷ [];
}

-- P14: an outside job reports, with mark 1, the height that was there; and another one.
abbrev plan14 : Plan
plan14 = record {
  heights = pos 1500 ∷ [];
  lines =
      insertion (maybe_writer 0)
      ∷ insertion (job_on shift (pos 20) 0)
      ∷ sealing 1
      ∷ step 0 0
      ∷ step 1 1
      ∷ step 3 1
      ∷ own_report 0 (one (pos 1500)) 1
      ∷ step 4 1
      ∷ [];
}

abbrev plan_other : Plan
plan_other = first 6 plan14 then own_report 0 (one (pos 1501)) 1

-- P15: the set's guess falls, and its own run reports what the guess had reported; and another height.
abbrev plan15 : Plan
plan15 = record {
  heights = pos 1390 ∷ [];
  lines =
      insertion (job_on floor (pos 1400) 0)
      ∷ insertion (job_on set (pos 1500) 0)
      ∷ insertion (job_on shift (pos 20) 0)
      ∷ sealing 1
      ∷ step 0 0
      ∷ step 1 1
      ∷ step 3 1
      ∷ step 1 2
      ∷ step 3 2
      ∷ step 2 0
      ∷ step 0 1
      ∷ step 2 1
      ∷ step 4 2
      ∷ [];
}

abbrev plan_set_other : Plan
plan_set_other = first 11 plan15 then own_report 1 (one (pos 1501)) 0

-- P16: job 1 predicts the height that job 0 reports; the same job in another mode; and job 0 reports another height.
abbrev predicting : ℕ → Job
predicting mode = record {
  kind = outside;
  arity = 1;
  accesses = to 0 mode ∷ no_access ∷ no_access ∷ no_access ∷ [];
  parameter = pos 0;
  predicted = one (pos 1510);
}

abbrev plan16 : ℕ → Plan
plan16 mode = record {
  heights = pos 1500 ∷ [];
  lines =
      insertion (writer 0)
      ∷ insertion (predicting mode)
      ∷ sealing 1
      ∷ step 0 0
      ∷ step 1 1
      ∷ speculation_report 1 (one (pos 1530)) 0
      ∷ own_report 0 (one (pos 1510)) 0
      ∷ step 4 1
      ∷ [];
}

abbrev plan_missed : Plan
plan_missed = first 6 (plan16 3) then own_report 0 (one (pos 1511)) 0

-- P17: job 2 predicts the height of cell 0 and reads cell 1; job 3 takes what it reports.
abbrev predicting_beside : Job
predicting_beside = record {
  kind = outside;
  arity = 2;
  accesses = to 0 3 ∷ to 1 0 ∷ no_access ∷ no_access ∷ [];
  parameter = pos 0;
  predicted = one (pos 1510);
}

abbrev plan17 : Plan
plan17 = record {
  heights = pos 1500 ∷ pos 1480 ∷ [];
  lines =
      insertion (job_on floor (pos 1400) 0)
      ∷ insertion (job_on floor (pos 1400) 1)
      ∷ insertion predicting_beside
      ∷ insertion (job_on shift (pos 5) 0)
      ∷ sealing 1
      ∷ step 1 2
      ∷ speculation_report 2 (two (pos 1520) (pos 1480)) 0
      ∷ step 1 3
      ∷ step 0 0
      ∷ step 2 0
      ∷ step 0 1
      ∷ step 2 1
      ∷ step 0 2
      ∷ own_report 2 (two (pos 1520) (pos 1480)) 0
      ∷ [];
}

-- P18: a batch into which jobs of each mode come, and one with the own run of a predicted write out.
abbrev plan_modes : Plan
plan_modes = record { heights = pos 1500 ∷ []; lines = [] }

abbrev plan_predicted : Plan
plan_predicted = record { heights = pos 1500 ∷ []; lines = insertion (predicting 3) ∷ sealing 1 ∷ step 0 0 ∷ [] }

-- P19: jobs of one access, and jobs that meet in two cells.
abbrev user : ℕ → Job
user mode = accessing outside (pos 0) (to 0 mode)

abbrev spike_of : ℕ → ℕ → Job
spike_of a b = record {
  kind = spike;
  arity = 2;
  accesses = to a 2 ∷ to b 0 ∷ no_access ∷ no_access ∷ [];
  parameter = pos 1000;
  predicted = no_predictions;
}

-- P20: a mean that only order ties to what comes after it, and three jobs with fewer accesses. All are started, the mean last.
abbrev plan20 : Plan
plan20 = record {
  heights = pos 1500 ∷ pos 1500 ∷ pos 1500 ∷ pos 1500 ∷ pos 1500 ∷ pos 1500 ∷ pos 1500 ∷ [];
  lines =
      insertion (mean_of 0 1 2)
      ∷ insertion (job_on shift (pos 5) 1)
      ∷ insertion (spike_of 3 4)
      ∷ insertion (job_on floor (pos 1400) 5)
      ∷ insertion (job_on floor (pos 1400) 6)
      ∷ sealing 0
      ∷ step 0 3
      ∷ step 0 4
      ∷ step 0 2
      ∷ step 0 0
      ∷ step 2 0
      ∷ [];
}

-- P8's jobs with guessing off.
abbrev plan_off : Plan
plan_off = record {
  heights = pos 1500 ∷ pos 1480 ∷ [];
  lines =
      insertion (job_on floor (pos 1400) 0)
      ∷ insertion (job_on shift (pos 20) 0)
      ∷ sealing 0
      ∷ step 0 0
      ∷ [];
}

-- P9 with the second shift not guessed: the guess that it would take from has fallen, and is taken from all the same.
abbrev plan_fallen : Plan
plan_fallen = first 7 plan9 then step 2 0

-- A job of four accesses: it reads cells 0 to 2 and has the mode on cell 3 in its fourth place.
abbrev fourth : ℕ → Job
fourth mode = record {
  kind = outside;
  arity = 4;
  accesses = to 0 0 ∷ to 1 0 ∷ to 2 0 ∷ to 3 mode ∷ [];
  parameter = pos 0;
  predicted = no_predictions;
}

-- Its own run is out.
abbrev plan_fourth : ℕ → Plan
plan_fourth mode = record {
  heights = pos 1500 ∷ pos 1480 ∷ pos 1460 ∷ pos 1440 ∷ [];
  lines = insertion (fourth mode) ∷ sealing 1 ∷ step 0 0 ∷ [];
}

-- It reports a new height of cell 3, and others for the cells that it only reads.
abbrev report_fourth : Line
report_fourth = own_report 0 (pos 1 ∷ pos 2 ∷ pos 3 ∷ pos 1450 ∷ []) 1

-- Kind, p, the values handed, the values reported, the mark.
abbrev pub table : List Example
table =
    -- P1 floor 1400: 1399 gives 1400, mark 1; 1400 gives mark 0.
    gives floor (pos 1400) (one (pos 1399)) (one (pos 1400)) 1
    ∷ gives floor (pos 1400) (one (pos 1400)) (one (pos 1400)) 0
    -- P2 spike 2900 beside 1500: p 1399 gives 1500; p 1400 mark 0.
    ∷ gives spike (pos 1399) (two (pos 2900) (pos 1500)) (two (pos 1500) (pos 1500)) 1
    ∷ gives spike (pos 1400) (two (pos 2900) (pos 1500)) (two (pos 2900) (pos 1500)) 0
    -- P3 spike 2147483647 beside -2147483648, p 2147483647: mark 1.
    ∷ gives spike (pos 2147483647) (two (pos 2147483647) (minus 2147483648)) (two (minus 2147483648) (minus 2147483648)) 1
    -- P4 shift 2147483640 by 20: 2147483647.
    ∷ gives shift (pos 20) (one (pos 2147483640)) (one (pos 2147483647)) 0
    -- P5 mean of 3, 4: 4; of -3, -4: -4; of -1, 0: -1.
    ∷ gives mean (pos 0) (three (pos 0) (pos 3) (pos 4)) (three (pos 4) (pos 3) (pos 4)) 0
    ∷ gives mean (pos 0) (three (pos 0) (minus 3) (minus 4)) (three (minus 4) (minus 3) (minus 4)) 0
    ∷ gives mean (pos 0) (three (pos 0) (minus 1) (pos 0)) (three (minus 1) (minus 1) (pos 0)) 0
    -- P6 pair 1720, 1480: 1480, 1720; equal: mark 0.
    ∷ gives pair (pos 0) (two (pos 1720) (pos 1480)) (two (pos 1480) (pos 1720)) 1
    ∷ gives pair (pos 0) (two (pos 1480) (pos 1480)) (two (pos 1480) (pos 1480)) 0
    -- P7 read and read: no conflict; read and maybe-write: conflict.
    ∷ conflict (reader 0) (reader 0) false
    ∷ conflict (reader 0) (maybe_writer 0) true
    -- P8 the plan above.
    ∷ answers plan8 (0 ∷ 0 ∷ 0 ∷ 0 ∷ 0 ∷ 0 ∷ 0 ∷ 0 ∷ [])
    ∷ settled plan8 0 1 0
    ∷ settled plan8 1 2 0
    ∷ height plan8 0 (pos 1520)
    ∷ height plan8 1 (pos 1480)
    -- P9 floor, shift, shift on one cell, both shifts guessed; the floor reports a raised height, mark 1: the first shift's
    -- guess has fallen, the second's is not yet judged, start own 2 gives 15, start own 1 is accepted.
    ∷ answers plan9 (0 ∷ 0 ∷ 0 ∷ 0 ∷ 0 ∷ 0 ∷ 0 ∷ 0 ∷ 0 ∷ 0 ∷ [])
    ∷ settled plan9 0 1 1
    ∷ height plan9 0 (pos 1400)
    ∷ judged plan9 1 3
    ∷ judged plan9 2 1
    ∷ next plan9 (step 0 2) 15
    ∷ next plan9 (step 0 1) 0
    -- P11 tallies: before a guess is started; while it is out, and stored; kept; of P9's two, then with one of them thrown away.
    ∷ tally (first 2 plan8) (numbers 2 0 0 0 0)
    ∷ tally (first 5 plan8) (numbers 2 1 0 0 1)
    ∷ tally (first 6 plan8) (numbers 2 1 0 0 1)
    ∷ tally plan8 (numbers 2 1 1 0 0)
    ∷ tally plan9 (numbers 3 2 0 0 2)
    ∷ tally (plan9 then step 0 1) (numbers 3 2 0 1 1)
    -- P12 a job that comes late: the batch is finished, has a job more and is not, and is again with that job settled. The
    -- same job, come in while runs are out, is guessed; the cells are the same.
    ∷ held plan8 2 true
    ∷ held (plan8 then late) 3 false
    ∷ next (plan8 then late) (sealing 1) 2
    ∷ names (plan8 then late) 0 2 1
    ∷ answers plan_late (0 ∷ 0 ∷ 0 ∷ 0 ∷ 0 ∷ 0 ∷ 0 ∷ 0 ∷ 0 ∷ 0 ∷ 0 ∷ [])
    ∷ settled plan_late 2 1 0
    ∷ held plan_late 3 true
    ∷ height plan_late 0 (pos 1525)
    ∷ height plan_late 1 (pos 1480)
    ∷ next (first 6 plan_meanwhile) (step 1 2) 15
    ∷ answers plan_meanwhile (0 ∷ 0 ∷ 0 ∷ 0 ∷ 0 ∷ 0 ∷ 0 ∷ 0 ∷ 0 ∷ 0 ∷ 0 ∷ 0 ∷ [])
    ∷ settled plan_meanwhile 2 2 0
    ∷ held plan_meanwhile 3 true
    ∷ height plan_meanwhile 0 (pos 1525)
    ∷ height plan_meanwhile 1 (pos 1480)
    -- P13 what a guess looked past: before its start; started; with job 0, job 1, job 2 settled; thrown away; of no job.
    ∷ answers plan13 (0 ∷ 0 ∷ 0 ∷ 0 ∷ 0 ∷ 0 ∷ 0 ∷ 0 ∷ 0 ∷ 0 ∷ 0 ∷ 0 ∷ [])
    ∷ past (first 5 plan13) 3 no_jobs no_jobs
    ∷ past (first 6 plan13) 3 (jobs_from 3 0) (jobs_from 3 0)
    ∷ past (first 8 plan13) 3 (jobs_from 3 0) (jobs_from 2 1)
    ∷ past (first 10 plan13) 3 (jobs_from 3 0) (jobs_from 1 2)
    ∷ past plan13 3 (jobs_from 3 0) no_jobs
    ∷ settled plan13 2 1 1
    ∷ judged plan13 3 3
    ∷ past (plan13 then step 0 3) 3 no_jobs no_jobs
    ∷ not_told plan13 4 11
    -- P14 the height that was there with mark 1: not yet judged; stands; kept, and no more to judge. Another height: fallen.
    ∷ answers plan14 (0 ∷ 0 ∷ 0 ∷ 0 ∷ 0 ∷ 0 ∷ 0 ∷ 0 ∷ [])
    ∷ judged (first 6 plan14) 1 1
    ∷ judged (first 7 plan14) 1 2
    ∷ next (first 7 plan14) (step 0 1) 17
    ∷ settled plan14 0 1 1
    ∷ settled plan14 1 2 0
    ∷ height plan14 0 (pos 1520)
    ∷ judged plan14 1 0
    ∷ judged plan_other 1 3
    ∷ next plan_other (step 4 1) 18
    ∷ next plan_other (step 0 1) 0
    -- P15 a source thrown away: fallen and not yet judged; stands when the height is reported again. Another height: fallen.
    ∷ answers plan15 (0 ∷ 0 ∷ 0 ∷ 0 ∷ 0 ∷ 0 ∷ 0 ∷ 0 ∷ 0 ∷ 0 ∷ 0 ∷ 0 ∷ 0 ∷ [])
    ∷ judged (first 10 plan15) 1 3
    ∷ judged (first 10 plan15) 2 1
    ∷ judged (first 12 plan15) 2 2
    ∷ settled plan15 1 1 0
    ∷ settled plan15 2 2 0
    ∷ height plan15 0 (pos 1520)
    ∷ judged plan_set_other 2 3
    -- P16 a prediction: the guess starts at once and is handed it, in mode 1 it has to wait; it stands and is kept. Another
    -- height: fallen, and the own run is handed that one.
    ∷ answers (plan16 3) (0 ∷ 0 ∷ 0 ∷ 0 ∷ 0 ∷ 0 ∷ 0 ∷ 0 ∷ [])
    ∷ receives (first 5 (plan16 3)) 1 (one (pos 1510))
    ∷ next (first 4 (plan16 1)) (step 1 1) 15
    ∷ judged (first 7 (plan16 3)) 1 2
    ∷ settled (plan16 3) 1 2 0
    ∷ height (plan16 3) 0 (pos 1530)
    ∷ judged plan_missed 1 3
    ∷ next plan_missed (step 4 1) 18
    ∷ receives (plan_missed then step 0 1) 1 (one (pos 1511))
    -- P17 a prediction beside another cell: one job is looked past; a later guess waits for the report, and takes it; the guess
    -- falls, and its own run gives the later one what it had taken.
    ∷ answers plan17 (0 ∷ 0 ∷ 0 ∷ 0 ∷ 0 ∷ 0 ∷ 0 ∷ 0 ∷ 0 ∷ 0 ∷ 0 ∷ 0 ∷ 0 ∷ 0 ∷ [])
    ∷ next (first 5 plan17) (step 1 3) 15
    ∷ receives (first 6 plan17) 2 (two (pos 1510) (pos 1480))
    ∷ past (first 6 plan17) 2 (jobs_from 1 1) (jobs_from 1 1)
    ∷ receives (first 8 plan17) 3 (one (pos 1520))
    ∷ judged (first 12 plan17) 2 3
    ∷ receives (first 13 plan17) 2 (two (pos 1500) (pos 1480))
    ∷ judged plan17 3 2
    -- P18 modes 3 and 4 of an outside job, mode 3 of a shift; mark 1 of a predicted write.
    ∷ next plan_modes (insertion (predicting 3)) 0
    ∷ next plan_modes (insertion (predicting 4)) 6
    ∷ next plan_modes (insertion (accessing shift (pos 20) (to 0 3))) 8
    ∷ next plan_predicted (own_report 0 (one (pos 1500)) 1) 16
    -- P19 sorts of conflict: by the modes of two jobs on one cell; a mean and a shift of what it reads, in both orders; two spikes,
    -- each of which reads what the other may write.
    ∷ sort (user 0) (user 0) 0
    ∷ sort (user 0) (user 1) 2
    ∷ sort (user 0) (user 2) 2
    ∷ sort (user 0) (user 3) 2
    ∷ sort (user 1) (user 0) 1
    ∷ sort (user 1) (user 1) 1
    ∷ sort (user 2) (user 0) 1
    ∷ sort (user 2) (user 2) 1
    ∷ sort (user 3) (user 0) 1
    ∷ sort (user 3) (user 3) 1
    ∷ sort (mean_of 0 1 2) (job_on shift (pos 5) 1) 2
    ∷ sort (job_on shift (pos 5) 1) (mean_of 0 1 2) 1
    ∷ sort (spike_of 0 1) (spike_of 1 0) 1
    -- P20 the chooser: of chains of length 1 the job with fewest accesses, and the lower number; 19 until the mean is settled. A
    -- longer chain goes before.
    ∷ answers plan20 (0 ∷ 0 ∷ 0 ∷ 0 ∷ 0 ∷ 0 ∷ 0 ∷ 0 ∷ 0 ∷ 0 ∷ 0 ∷ [])
    ∷ names (first 6 plan20) 0 3 1
    ∷ names (first 7 plan20) 0 4 1
    ∷ names (first 8 plan20) 0 2 1
    ∷ names (first 9 plan20) 0 0 1
    ∷ names_none (first 10 plan20) 19
    ∷ names plan20 0 1 1
    ∷ names (first 6 plan20 then insertion (job_on shift (pos 5) 0)) 0 0 2
    -- R79: a guess that only took from another; a guess that its job is settled by.
    ∷ past (first 9 plan9) 2 no_jobs no_jobs
    ∷ past plan8 1 (jobs_from 1 0) no_jobs
    -- R45: no guess is started; it is out, and stored, and the job is not ready; the job is ready and the guess stands; the job is
    -- settled by it; it is thrown away.
    ∷ judged (first 4 plan8) 1 0
    ∷ judged (first 5 plan8) 1 1
    ∷ judged (first 6 plan8) 1 1
    ∷ judged (first 7 plan8) 1 2
    ∷ judged plan8 1 0
    ∷ judged (plan9 then step 0 1) 1 0
    -- R112: a guess with guessing off.
    ∷ next plan_off (step 1 1) 12
    -- R113, start own: the job is settled; its own run is out.
    ∷ next plan8 (step 0 0) 13
    ∷ next (first 4 plan8) (step 0 0) 13
    -- 13, start guess: the job is settled; its own run is out; its guess is out, stored, thrown away.
    ∷ next plan8 (step 1 0) 13
    ∷ next (first 4 plan8) (step 1 0) 13
    ∷ next (first 5 plan8) (step 1 1) 13
    ∷ next (first 6 plan8) (step 1 1) 13
    ∷ next (plan9 then step 0 1) (step 1 1) 13
    -- 13, reports: the run is not started; it is reported; it is thrown away.
    ∷ next (first 3 plan8) (step 2 0) 13
    ∷ next plan8 (step 2 0) 13
    ∷ next (first 4 plan8) (step 3 1) 13
    ∷ next (first 6 plan8) (step 3 1) 13
    ∷ next (plan9 then step 0 1) (step 3 1) 13
    -- 13, settle: the job is settled; its guess is not started, out, thrown away.
    ∷ next plan8 (step 4 1) 13
    ∷ next (first 4 plan8) (step 4 1) 13
    ∷ next (first 5 plan8) (step 4 1) 13
    ∷ next (plan9 then step 0 1) (step 4 1) 13
    -- R114: a guess of a ready job.
    ∷ next (first 3 plan8) (step 1 0) 14
    -- R115, start guess: the writer met has no guess, one that is out, one that is stored, one that has fallen.
    ∷ next (first 5 plan9) (step 1 2) 15
    ∷ next (first 6 plan9) (step 1 2) 15
    ∷ next (first 7 plan9) (step 1 2) 0
    ∷ next plan_fallen (step 1 2) 0
    -- 15, settle: a job not ready.
    ∷ next (first 6 plan8) (step 4 1) 15
    -- R116: a mark above 1; mark 1 of a job without a maybe-write.
    ∷ next (first 4 plan8) (own_report 0 (one (pos 1400)) 2) 16
    ∷ next (first 4 plan8) (own_report 0 (one (pos 1400)) 1) 0
    ∷ next (first 5 plan8) (speculation_report 1 (one (pos 1520)) 1) 16
    ∷ next (first 5 plan8) (speculation_report 1 (one (pos 1520)) 0) 0
    -- R117: start own while its guess stands. R118: settle a fallen guess.
    ∷ next (first 7 plan8) (step 0 1) 17
    ∷ next plan9 (step 4 1) 18
    -- The fourth access counts as the others do: mark 1 of a maybe-write there is accepted, that of a write is not.
    ∷ next (plan_fourth 1) report_fourth 16
    ∷ next (plan_fourth 2) report_fourth 0
    ∷ settled (plan_fourth 2 then report_fourth) 0 1 1
    ∷ height (plan_fourth 2 then report_fourth) 2 (pos 1460)
    ∷ height (plan_fourth 2 then report_fourth) 3 (pos 1450)
    ∷ []

-- The one theorem: every row of the table holds.
pub examples_hold : AllHold Holds table
unfolding result_of table_of conflicts touches
    perform answers_to after_all cell_refusal asked_cell job_ask_refusal shown_job asked_job is_finished asked_batch opened inserted sealed_with started_own started_speculation reported_own reported_speculation committed_by
    with_inserted with_sealed with_job_changed in_form job_out job_refusal first_of is_ready is_valid is_invalid validity same_height
    source_below value_below set_of write_back bit with_bit has_job with_job reaches_to any_below fold_below tallied tally_below count_below
    asked_speculation shown_set least_below sort_of flows overwrites names_cell may_write_cell chosen pick_below longest refusal_of
examples_hold =
    refl also refl  -- P1
    also refl also refl  -- P2
    also refl  -- P3
    also refl  -- P4
    also refl also refl also refl  -- P5
    also refl also refl  -- P6
    also refl also refl  -- P7
    also refl also refl also refl also refl also refl  -- P8
    also refl also refl also refl also refl also refl also refl also refl  -- P9
    also refl also refl also refl also refl also refl also refl  -- P11
    also refl also refl also refl also refl also refl also refl also refl also refl also refl  -- P12, after the end
    also refl also refl also refl also refl also refl also refl  -- P12, meanwhile
    also refl also refl also refl also refl also refl also refl also refl also refl also refl also refl  -- P13
    also refl also refl also refl also refl also refl also refl also refl also refl also refl also refl also refl  -- P14
    also refl also refl also refl also refl also refl also refl also refl also refl  -- P15
    also refl also refl also refl also refl also refl also refl also refl also refl also refl  -- P16
    also refl also refl also refl also refl also refl also refl also refl also refl  -- P17
    also refl also refl also refl also refl  -- P18
    also refl also refl also refl also refl also refl also refl also refl  -- P19, sorts by
    also refl also refl also refl also refl also refl also refl  -- modes and by cells
    also refl also refl also refl also refl also refl also refl also refl also refl  -- P20
    also refl also refl  -- other guesses that are told of
    also refl also refl also refl also refl also refl also refl  -- how a guess is judged
    also refl  -- 12
    also refl also refl  -- 13, start own
    also refl also refl also refl also refl also refl  -- 13, start guess
    also refl also refl also refl also refl also refl  -- 13, reports
    also refl also refl also refl also refl  -- 13, settle
    also refl  -- 14
    also refl also refl also refl also refl also refl  -- 15
    also refl also refl also refl also refl  -- 16
    also refl also refl  -- 17, 18
    also refl also refl also refl also refl also refl  -- four accesses
    also end
