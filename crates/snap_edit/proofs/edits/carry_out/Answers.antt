use Rattle.snap_edit.proofs.edits.carry_out.Goals as goal

pub returns-in-SetAttr-clause-made : goal.returns-in-SetAttr-clause-made
returns-in-SetAttr-clause-made c = rw c.in-SetAttr.is c.change_attr.ensures.made

pub returns-in-DropAttr-clause-made : goal.returns-in-DropAttr-clause-made
returns-in-DropAttr-clause-made c = rw c.in-DropAttr.is c.change_attr-in-DropAttr.ensures.made

pub returns-in-Insert-clause-refused : goal.returns-in-Insert-clause-refused
returns-in-Insert-clause-refused c =
    rw c.in-Insert.is c.insert.ensures.refused
