-- The numbers of a fault and of a refusal to write.
use Rattle.std.specs.Prelude.{ℕ, Some, None, Option}
use Rattle.sheet.specs.declared.fault.Rule.{Rule}
use Rattle.sheet.specs.declared.fault.Rule.TheVariants.{Text, Code, Deadline, Phase, Execution, Hold}
use Rattle.sheet.specs.declared.fault.Layer.{Layer}
use Rattle.sheet.specs.declared.fault.Layer.TheVariants.{Bytes, Header as HeaderLayer, Row as RowLayer}
use Rattle.sheet.specs.declared.fault.Fault.{Fault}
use Rattle.sheet.specs.declared.fault.Fault.TheVariants.{Short, RowCount, Header, Length, Broken}
use Rattle.sheet.specs.declared.refusal.WriteRefusal.{WriteRefusal}
use Rattle.sheet.specs.declared.refusal.WriteRefusal.TheVariants.{ShortBuffer}

-- the number of the fault that a broken rule is
abbrev pub rule_number : Rule → ℕ
rule_number Text = 5
rule_number Code = 6
rule_number Deadline = 7
rule_number Phase = 8
rule_number Execution = 9
rule_number Hold = 10

-- a fault's number in logs and documents
abbrev pub number_of : Fault → ℕ
number_of Short = 1
number_of RowCount = 2
number_of Header = 3
number_of Length = 4
number_of (Broken rule row) = rule_number rule

-- the reader that finds the fault
abbrev pub layer_of : Fault → Layer
layer_of Short = Bytes
layer_of RowCount = HeaderLayer
layer_of Header = HeaderLayer
layer_of Length = Bytes
layer_of (Broken rule row) = RowLayer

-- a layer's number in logs and documents: 1 of the bytes, 2 of the header, 3 of a row
abbrev pub layer_number : Layer → ℕ
layer_number Bytes = 1
layer_number HeaderLayer = 2
layer_number RowLayer = 3

-- the row that breaks a rule, counted from 1, where the fault is of a row
abbrev pub row_of_fault : Fault → Option ℕ
row_of_fault Short = None
row_of_fault RowCount = None
row_of_fault Header = None
row_of_fault Length = None
row_of_fault (Broken rule row) = Some row

-- the number of a refusal to write
abbrev pub refusal_number : WriteRefusal → ℕ
refusal_number ShortBuffer = 11
