-- `split_once` meets its contract: the first piece ends at the cut.
use Rattle.std.proofs.Common.{◌≡◌, ◌+◌, ◌-◌, arith, length, drop, take_all, length-drop}
use Rattle.text.proofs.PieceLaws.{last_piece, next_piece}
use Rattle.text.proofs.split_once.Goals as goal

-- the bytes are one piece
pub returns-then-stop-bytes : goal.returns-then-stop-bytes
returns-then-stop-bytes c =
    let bytes = c.args.bytes.now in
    let stop = c.cut-stop.result in
    rw (last_piece c.args.separator bytes 0 stop c.cut-stop.ensures.value (omega arith) c.if-stop-bytes.true, take_all (stop - 0) bytes (omega arith))

-- others follow it
pub returns : goal.returns
returns c =
    let bytes = c.args.bytes.now in
    let stop = c.cut-stop.result in
    let few = length-drop (stop + 1) bytes in
    let whole : stop - 0 ≡ stop = omega arith in
    let next = next_piece c.args.separator bytes 0 stop c.cut-stop.ensures.value (omega arith) (omega arith) in
    rw (take_all (length bytes - (stop + 1)) (drop (stop + 1) bytes) (omega arith)) (omega arith, rw whole at next)
