-- R153: the program's answer to a lent plan, in a lent buffer.
use Rattle.std.specs.Prelude.{ℕ, Bool, cond, List, ◌++◌, ltb, length, drop}
use Rattle.answer.specs.Output.{output_of}
use Rattle.sorghemi.specs.declared.PlanAnswer.{PlanAnswer}

-- R120: the buffer has fewer places than any answer could need. Nothing is written then, so that no answer is cut short.
abbrev pub is_short : List ℕ → Bool
is_short buffer = ltb (length buffer) 334861

-- What is answered: how many bytes the answer has.
unfoldable pub plan_answered : List ℕ → List ℕ → PlanAnswer
plan_answered plan buffer =
    cond (is_short buffer)
    (record { refusal = 20; length = 0 })
    (record { refusal = 0; length = length (output_of plan) })

-- What the buffer holds afterwards: the answer at its beginning, and what stood there in all other places.
unfoldable pub buffer_answered : List ℕ → List ℕ → List ℕ
buffer_answered plan buffer =
    cond (is_short buffer) buffer (output_of plan ++ drop (length (output_of plan)) buffer)
