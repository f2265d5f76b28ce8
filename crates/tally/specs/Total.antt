-- R76: the total of many tallies.
use Rattle.std.specs.Prelude.{ℕ, ◌+◌, max, Bool, cond, List, [], ◌∷◌, eqb, ltb, Option, None, Some}
use Rattle.tally.specs.declared.Tally.{Tally}
use Rattle.tally.specs.declared.TallyAnswer.{TallyAnswer}
use Rattle.tally.specs.Tally.{no_tally, given, refused}

-- The sum of two tallies, number by number, and of a list of them. Sums have no limit here.
abbrev pub sum_of_two : Tally → Tally → Tally
sum_of_two a b =
    record {
      jobs = a.jobs + b.jobs;
      started = a.started + b.started;
      kept = a.kept + b.kept;
      discarded = a.discarded + b.discarded;
      pending = a.pending + b.pending;
    }

unfoldable pub sum_of : List Tally → Tally
sum_of [] = no_tally
sum_of (tally ∷ tallies) = sum_of_two tally (sum_of tallies)

-- R123: one of the five numbers, and so the largest of them, does not fit 32 bits.
abbrev pub most : ℕ
most = 4294967295

abbrev pub largest : Tally → ℕ
largest t = max t.jobs (max t.started (max t.kept (max t.discarded t.pending)))

abbrev pub is_over : Tally → Bool
is_over t = ltb most (largest t)

-- The tally, where each of its numbers fits, and what is answered then.
unfoldable pub fitting : Tally → Option Tally
fitting t = cond (is_over t) None (Some t)

unfoldable pub fitted : Tally → TallyAnswer
fitted t = cond (is_over t) (refused 23) (given t)

-- The total of two tallies, and of a list. Whether it is refused is asked of the whole sum alone, so no order of adding is in it.
abbrev pub added : Tally → Tally → TallyAnswer
added a b = fitted (sum_of_two a b)

abbrev pub total_of : List Tally → TallyAnswer
total_of tallies = fitted (sum_of tallies)

-- The same as a loop comes to it, one tally after the other: a refused total stays so.
abbrev pub no_total : TallyAnswer
no_total = given no_tally

abbrev pub added_to : TallyAnswer → Tally → TallyAnswer
added_to total tally = cond (eqb total.refusal 0) (added total.tally tally) total
