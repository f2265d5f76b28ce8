-- R95: how the record and the structs beside it lie in memory: the one list that hosts compare their own with.
-- It begins with its version, which also changes where a field only changes its meaning. Then come, for each struct, its size
-- and the offsets of its fields in their order, in bytes.
use Rattle.std.specs.Prelude.{ℕ, List, [], ◌∷◌, ◌++◌}

abbrev batch : List ℕ
batch = 11912 ∷ 0 ∷ 1 ∷ 2 ∷ 3 ∷ 4 ∷ 260 ∷ 4360 ∷ 11528 ∷ 11656 ∷ 11784 ∷ []

abbrev run : List ℕ
run = 56 ∷ 0 ∷ 16 ∷ 32 ∷ 33 ∷ 40 ∷ []

abbrev job_set : List ℕ
job_set = 16 ∷ 0 ∷ 8 ∷ []

abbrev job : List ℕ
job = 32 ∷ 0 ∷ 1 ∷ 2 ∷ 12 ∷ 16 ∷ []

abbrev access : List ℕ
access = 2 ∷ 0 ∷ 1 ∷ []

abbrev report : List ℕ
report = 20 ∷ 0 ∷ 16 ∷ []

abbrev handed : List ℕ
handed = 20 ∷ 0 ∷ 4 ∷ []

abbrev started : List ℕ
started = 11936 ∷ 0 ∷ 4 ∷ 24 ∷ []

abbrev answer : List ℕ
answer = 11920 ∷ 0 ∷ 8 ∷ []

abbrev choice : List ℕ
choice = 4 ∷ 0 ∷ 1 ∷ 2 ∷ 3 ∷ []

abbrev cell_answer : List ℕ
cell_answer = 8 ∷ 0 ∷ 4 ∷ []

abbrev job_answer : List ℕ
job_answer = 72 ∷ 0 ∷ 1 ∷ 2 ∷ 3 ∷ 4 ∷ 5 ∷ 8 ∷ 24 ∷ 40 ∷ []

abbrev batch_answer : List ℕ
batch_answer = 6 ∷ 0 ∷ 1 ∷ 2 ∷ 3 ∷ 4 ∷ 5 ∷ []

abbrev outcome : List ℕ
outcome = 24 ∷ 0 ∷ 4 ∷ 20 ∷ []

abbrev plan_answer : List ℕ
plan_answer = 16 ∷ 0 ∷ 8 ∷ []

abbrev tally : List ℕ
tally = 20 ∷ 0 ∷ 4 ∷ 8 ∷ 12 ∷ 16 ∷ []

abbrev tally_answer : List ℕ
tally_answer = 24 ∷ 0 ∷ 4 ∷ []

abbrev share_answer : List ℕ
share_answer = 16 ∷ 0 ∷ 8 ∷ []

abbrev set_answer : List ℕ
set_answer = 3 ∷ 0 ∷ 1 ∷ 2 ∷ []

abbrev speculation_answer : List ℕ
speculation_answer = 7 ∷ 0 ∷ 1 ∷ 4 ∷ []

abbrev job_list : List ℕ
job_list = 4104 ∷ 0 ∷ 8 ∷ []

abbrev inserted : List ℕ
inserted = 2 ∷ 0 ∷ 1 ∷ []

abbrev taken : List ℕ
taken = 20 ∷ 0 ∷ 1 ∷ 4 ∷ []

abbrev step_list : List ℕ
step_list = 320 ∷ 0 ∷ []

abbrev turned : List ℕ
turned = 2 ∷ 0 ∷ 1 ∷ []

abbrev pub layout : List ℕ
layout =
    7
    ∷ batch ++ run ++ job_set ++ job ++ access
    ++ report ++ handed ++ started ++ answer
    ++ choice ++ cell_answer ++ job_answer ++ batch_answer ++ outcome ++ plan_answer
    ++ tally ++ tally_answer ++ share_answer ++ set_answer ++ speculation_answer
    ++ job_list ++ inserted ++ taken ++ step_list ++ turned
