use Rattle.refusal_lines.proofs.blif.blif_refusal.Goals as goal

pub returns-in-NotText : goal.returns-in-NotText
returns-in-NotText c = rw c.in-NotText.is c.plain.ensures

pub returns-in-Unsupported : goal.returns-in-Unsupported
returns-in-Unsupported c = rw c.in-Unsupported.is c.named.ensures

pub returns-in-OutsideModel : goal.returns-in-OutsideModel
returns-in-OutsideModel c = rw c.in-OutsideModel.is c.plain-in-OutsideModel.ensures

pub returns-in-Row : goal.returns-in-Row
returns-in-Row c = rw c.in-Row.is c.plain-in-Row.ensures

pub returns-in-MixedRows : goal.returns-in-MixedRows
returns-in-MixedRows c = rw c.in-MixedRows.is c.plain-in-MixedRows.ensures

pub returns-in-LatchForm : goal.returns-in-LatchForm
returns-in-LatchForm c = rw c.in-LatchForm.is c.plain-in-LatchForm.ensures

pub returns-in-Formal : goal.returns-in-Formal
returns-in-Formal c = rw c.in-Formal.is c.plain-in-Formal.ensures

pub returns-in-ModelTwice : goal.returns-in-ModelTwice
returns-in-ModelTwice c = rw c.in-ModelTwice.is c.named-in-ModelTwice.ensures

pub returns-in-Short : goal.returns-in-Short
returns-in-Short c = rw c.in-Short.is c.plain-in-Short.ensures

pub returns-in-Limit : goal.returns-in-Limit
returns-in-Limit c = rw c.in-Limit.is c.plain-in-Limit.ensures
