-- `Batch::copy_out` meets its contract.
use mathlib.Core.Path.{sym, ◌∙◌}
use borrow.Author.Tests.{ne_eqb}
use Rattle.engine.specs.Ask.{buffer_after}
use Rattle.engine.specs.AskLaws.{copy_room, part_paste}
use borrow.Author.Rules.{rules}
use Rattle.engine.proofs.Batch.copy_out.Goals as goal

-- refused
pub returns-then-refusal-ne0 : goal.returns-then-refusal-ne0
unfolding buffer_after
returns-then-refusal-ne0 c = ((c.told-refusal.ensures ∙ c.has_room.ensures), rw (← (c.told-refusal.ensures ∙ c.has_room.ensures), ne_eqb _ _ c.if-refusal-ne0.true))

-- a place inside the buffer, or its end: for this need and the next two
pub offset_bounds-buffer-at : goal.offset_bounds-buffer-at
offset_bounds-buffer-at c =
    let inside = (copy_room _ _ _ (c.told-refusal.ensures ∙ c.has_room.ensures) c.if-refusal-ne0.false).inside in
    search rules

pub slice_bounds-put-count : goal.slice_bounds-put-count
slice_bounds-put-count c =
    let inside = (copy_room _ _ _ (c.told-refusal.ensures ∙ c.has_room.ensures) c.if-refusal-ne0.false).inside in
    search rules

pub slice_bounds-put-start : goal.slice_bounds-put-start
slice_bounds-put-start c =
    let inside = (copy_room _ _ _ (c.told-refusal.ensures ∙ c.has_room.ensures) c.if-refusal-ne0.false).inside in
    search rules

-- the part lent has places for the cells
pub put-requires : goal.put-requires
put-requires c =
    let room = copy_room _ _ _ (c.told-refusal.ensures ∙ c.has_room.ensures) c.if-refusal-ne0.false in
    let few = room.few_cells in
    let enough = room.enough in
    search rules

-- accepted
pub returns : goal.returns
unfolding buffer_after
returns c =
    let a = c.args in
    let allowed = sym (c.told-refusal.ensures ∙ c.has_room.ensures) ∙ c.if-refusal-ne0.false in
    let inside = (copy_room _ _ _ (c.told-refusal.ensures ∙ c.has_room.ensures) c.if-refusal-ne0.false).inside in (
      sym allowed,
      rw (allowed, c.put.ensures)
          (part_paste a.buffer.now a.self.now.cells a.at a.self.now.cell_count inside),
    )
