-- `run` meets its contract: too long, faulty, or in form.
use Rattle.std.proofs.Common.{◌-◌, ◌<◌, ◌^◌, ◌≡◌, arith, rules, length, drop, length-drop, lt-ltb, le-ltb}
use Rattle.text.specs.Pieces.{line_feed}
use Rattle.text.proofs.PieceLaws.{few_pieces}
use Rattle.answer.specs.Lines.{same_parts}
use Rattle.answer.specs.Lengths.{fault_fits}
use Rattle.answer.specs.Output.{reading_text, output_of}
use Rattle.answer.proofs.run.Goals as goal

-- too long: 22 at line 0
pub returns-then-bytes-gt-LONGEST-clause-wrote : goal.returns-then-bytes-gt-LONGEST-clause-wrote
unfolding output_of
returns-then-bytes-gt-LONGEST-clause-wrote c = rw (lt-ltb _ _ c.if-bytes-gt-LONGEST.true) c.fault.ensures

pub returns-then-bytes-gt-LONGEST-clause-bytes_len_bound : goal.returns-then-bytes-gt-LONGEST-clause-bytes_len_bound
unfolding output_of
returns-then-bytes-gt-LONGEST-clause-bytes_len_bound c =
    rw (lt-ltb _ _ c.if-bytes-gt-LONGEST.true) (omega (arith, fault_fits 22 0 (omega arith) (omega arith)))

-- faulty: the reader's fault and its line
pub returns-in-Some-clause-wrote : goal.returns-in-Some-clause-wrote
unfolding output_of reading_text
returns-in-Some-clause-wrote c =
    rw (le-ltb _ _ c.if-bytes-gt-LONGEST.false, ← c.read_plan-reading.ensures, c.in-Some.is) (rw c.from.ensures at c.fault-in-Some.ensures)

pub returns-in-Some-clause-bytes_len_bound : goal.returns-in-Some-clause-bytes_len_bound
unfolding output_of reading_text
returns-in-Some-clause-bytes_len_bound c =
    let fault = c.in-Some.fault in
    let byte : fault.number < 256 = search rules in
    let word : fault.line < 2 ^ 64 = search rules in
    rw (le-ltb _ _ c.if-bytes-gt-LONGEST.false, ← c.read_plan-reading.ensures, c.in-Some.is)
    (omega (arith, fault_fits fault.number fault.line byte word))

-- in form: the three parts
pub returns-clause-wrote : goal.returns-clause-wrote
unfolding output_of reading_text
returns-clause-wrote c =
    rw (
      le-ltb _ _ c.if-bytes-gt-LONGEST.false,
      ← c.read_plan-reading.ensures,
      c.in_default.is,
      ← same_parts,
      ← c.line_start-from.ensures.bytes_value,
    )
    c.put_parts.ensures.wrote

-- the step lines have at most one line more than the plan has bytes
pub returns-clause-bytes_len_bound : goal.returns-clause-bytes_len_bound
unfolding output_of reading_text
returns-clause-bytes_len_bound c =
    let bytes = c.args.bytes.now in
    let from = c.line_start-from.result in
    let rest : length (drop from bytes) ≡ length bytes - from = length-drop from bytes in
    rw (
      le-ltb _ _ c.if-bytes-gt-LONGEST.false,
      ← c.read_plan-reading.ensures,
      c.in_default.is,
      ← same_parts,
      ← c.line_start-from.ensures.bytes_value,
    )
    (omega (arith, c.put_parts.ensures.bytes_len_bound, few_pieces line_feed (drop from bytes), c.if-bytes-gt-LONGEST.false))
