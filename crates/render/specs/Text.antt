-- The bytes of numbers and of the output's lines.
-- R152: one space between fields, a line feed at the end, and numbers in base ten as R143 reads them.
use Rattle.std.specs.Prelude.{ℕ, zero, suc, ◌+◌, ◌/◌, ◌%◌, List, [], ◌∷◌, ◌++◌, ℤ, pos, negsuc}

-- What stands between two fields.
abbrev pub space : ℕ
space = 32

-- What ends a line.
abbrev pub line_feed : ℕ
line_feed = 10

-- What stands before the digits of a height below 0.
abbrev pub minus_sign : ℕ
minus_sign = 45

-- The byte of a number below 10.
abbrev pub digit : ℕ → ℕ
digit n = 48 + n

-- The digits of n, most significant first, and none for 0, where so many divisions by ten bring n to 0.
unfoldable pub digits_within : ℕ → ℕ → List ℕ
digits_within zero n = []
digits_within (suc divisions) zero = []
digits_within (suc divisions) (suc n) = digits_within divisions (suc n / 10) ++ (digit (suc n % 10) ∷ [])

-- A natural number in base ten: the digits of its tens, and its last digit. n divisions are always enough.
unfoldable pub decimal : ℕ → List ℕ
decimal n = digits_within n (n / 10) ++ (digit (n % 10) ∷ [])

-- A height: a minus sign where it is below 0, and its distance from 0.
unfoldable pub height_text : ℤ → List ℕ
height_text (pos n) = decimal n
height_text (negsuc n) = minus_sign ∷ decimal (suc n)

-- A line of fields: one space between, a line feed at the end.
abbrev pub line_of : List (List ℕ) → List ℕ
line_of [] = line_feed ∷ []
line_of (field ∷ []) = field ++ (line_feed ∷ [])
line_of (field ∷ next ∷ more) = field ++ (space ∷ line_of (next ∷ more))

-- A line of two counts, as the lines of `step answer`.
abbrev pub pair_line : ℕ → ℕ → List ℕ
pair_line first second = line_of (decimal first ∷ decimal second ∷ [])

-- A line of three counts, as the lines of `job how mark`.
abbrev pub triple_line : ℕ → ℕ → ℕ → List ℕ
triple_line first second third = line_of (decimal first ∷ decimal second ∷ decimal third ∷ [])

-- A line of a count and a height, as the lines of `cell value`.
abbrev pub height_line : ℕ → ℤ → List ℕ
height_line cell height = line_of (decimal cell ∷ height_text height ∷ [])

-- The line of names `fault line`.
abbrev pub fault_names : List ℕ
fault_names = line_of ((102 ∷ 97 ∷ 117 ∷ 108 ∷ 116 ∷ []) ∷ (108 ∷ 105 ∷ 110 ∷ 101 ∷ []) ∷ [])

-- What a faulty plan gives: a line of names and a line of values, as in the format's other parts.
-- R150: `fault line`, and under it the number and its line.
abbrev pub fault_lines : ℕ → ℕ → List ℕ
fault_lines number line = fault_names ++ pair_line number line
