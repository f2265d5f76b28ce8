use Rattle.render.proofs.Writer.+count.Given as goal

-- proposed from what the method passes where it calls itself
abbrev pub decreases-count : goal.decreases-count
decreases-count l = l.n
