-- How long the parts of the output are, to show that every output fits the program's buffer.
use Rattle.std.specs.Prelude.{ℕ, ◌+◌, ◌*◌, ◌<◌, ◌≤◌, ◌^◌, List, ◌++◌, ◌≡◌, ℤ, length}
use Rattle.std.proofs.Common.{add-one, arith, sym, length-append, length-take-le}
use Rattle.std.specs.Int.Signed.{mag}
use Rattle.io.specs.Counts.{IsPrefixLen}
use Rattle.render.specs.Put.{Put}
use Rattle.render.specs.PutLaws.{put_room}
use Rattle.render.specs.Text.{triple_line, height_line, fault_lines}
use Rattle.render.specs.Length.{decimal_length, height_length, triple_takes, height_line_takes, fault_takes}
use Rattle.engine.specs.declared.Batch.{Batch}
use Rattle.stepping.specs.Stepping.{batch_after_lines}
use Rattle.stepping.specs.SteppingLaws.{steps_length}
use Rattle.answer.specs.Output.{lines_below, jobs_text, cells_text, parts_text}

-- One line more.
pub below_more : (n : ℕ) (line : ℕ → List ℕ) → lines_below (n + 1) line ≡ lines_below n line ++ line n
below_more n line = rw add-one

-- It adds its own length.
pub below_length : (n : ℕ) (line : ℕ → List ℕ) (most : ℕ)
    → length (lines_below n line) ≤ most * n → length (line n) ≤ most → length (lines_below (n + 1) line) ≤ most * (n + 1)
below_length n line most h k = rw (add-one, length-append (lines_below n line) (line n)) (omega arith)

-- A line of three bytes, each of three digits at most.
pub three_bytes : (a b c : ℕ) → a < 256 → b < 256 → c < 256 → length (triple_line a b c) ≤ 12
three_bytes a b c h k l =
    omega (
      arith,
      triple_takes a b c,
      decimal_length 2 a (omega arith),
      decimal_length 2 b (omega arith),
      decimal_length 2 c (omega arith),
    )

-- A line of a byte and a 32-bit height.
pub byte_and_height : (x : ℕ) (z : ℤ) → x < 256 → mag z < 2 ^ 31 → length (height_line x z) ≤ 16
byte_and_height x z h k = omega (arith, height_line_takes x z, decimal_length 2 x (omega arith), height_length z k)

-- The names of the three parts take 36 bytes, and an answer at most 5.
pub parts_length : (b : Batch) (lines : List (List ℕ))
    → length (jobs_text (batch_after_lines b lines)) ≤ 3060 → length (cells_text (batch_after_lines b lines)) ≤ 4080
    → length (parts_text b lines) ≤ 7176 + 5 * length lines
unfolding parts_text
parts_length b lines h k = simp length-append (omega (arith, steps_length b lines))

-- A fault is shorter: its number is a byte and its line has 64 bits.
pub fault_fits : (number line : ℕ) → number < 256 → line < 2 ^ 64 → length (fault_lines number line) ≤ 36
fault_fits number line h k =
    omega (arith, fault_takes number line, decimal_length 2 number (omega arith), decimal_length 19 line (omega arith))

-- What was put from the buffer's first place on is counted by the next place.
pub put_counts : {d xs d' : List ℕ} {r : ℕ} → Put d 0 xs d' r → IsPrefixLen r d'
put_counts {d} {xs} {d'} {r} p =
    let room = put_room p (omega arith) in
    (room, sym (length-take-le r d' room))
