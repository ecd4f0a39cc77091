use Rattle.lookup.proofs.descent.+down.Given as goal

-- The bits left fall.
abbrev pub decreases-down : goal.decreases-down
decreases-down l = l.left
