use Rattle.shape_core.proofs.parts.+last_member_in.Given as goal

abbrev pub decreases-last_member_in : goal.decreases-last_member_in
decreases-last_member_in l = l.count
