-- What a text of a pitch table says.
use Rattle.std.specs.Prelude.{◌≡◌, ℕ, ◌+◌, ◌≤◌, true, cond, ◌⊎◌, List, [], ◌∷◌, ◌++◌, length, ℤ, is_ok, Some, None, Ok, Err, codes, decimal, Option, Result, nat_lt}
use Rattle.std.specs.Fmt.{signed_decimal}
use Rattle.std.specs.List.{flat_map}
use Rattle.std.specs.Str.{bytes_eq}
use Rattle.pitch.specs.declared.table.Axis.{Axis}
use Rattle.pitch.specs.declared.table.Axis.TheVariants.{X, Y, Z}
use Rattle.pitch.specs.declared.table.Entry.{Entry}
use Rattle.pitch.specs.declared.table.Table.{Table}
use Rattle.pitch.specs.declared.table.TableFault.{TableFault}
use Rattle.pitch.specs.declared.table.TableFault.TheVariants.{Memory as NoMemory, TooMany as Full}
use Rattle.pitch_text.specs.declared.text.What.{What}
use Rattle.pitch_text.specs.declared.text.What.TheVariants.{Memory, Axis as NoAxis, Screw as NoScrew, Words, Number, TooMany, Early, Twice, Missing}
use Rattle.pitch_text.specs.declared.text.TextFault.{TextFault}
use Rattle.pitch_text.specs.declared.text.Statement.{Statement}
use Rattle.pitch_text.specs.declared.text.Statement.TheVariants.{Named, Numbered, Errors}
use Rattle.pitch_text.specs.declared.text.Reading.{Reading}
use Rattle.pitch_text.specs.declared.text.Reading.TheVariants.{Start, HasAxis, HasScrew, Ready}
use Rattle.pitch.specs.Limits.{most_millimetres}
use Rattle.pitch.specs.Names.{axis_name}
use Rattle.pitch.specs.Block.{Parts, parts_of}
use Rattle.pitch_text.specs.Words.{before, words_of, lines_of, numeral, signed_in}

abbrev pub message_of : What → List ℕ
message_of Memory = codes "no memory"
message_of NoAxis = codes "the axis is not X, Y or Z"
message_of NoScrew = codes "the number of the screw is not 0 to 65535"
message_of Words = codes "not two words"
message_of Number = codes "neither an axis, a screw nor two errors from -32768 to 32767"
message_of TooMany = codes "more than 2000 millimetres"
message_of Early = codes "errors before the axis and the screw"
message_of Twice = codes "the axis or the screw for the second time"
message_of Missing = codes "the text ends without an axis or a screw"

-- what a table's refusal of a millimetre is for its line
abbrev pub what_of : TableFault → What
what_of NoMemory = Memory
what_of Full = TooMany

-- what is printed of a fault
abbrev pub fault_text : TextFault → List ℕ
fault_text f = codes "line " ++ (decimal f.line ++ (codes ": " ++ message_of f.what))

abbrev pub axis_statement : List ℕ → Result Statement What
axis_statement w = cond (bytes_eq w (codes "X")) (Ok (Named X)) (cond (bytes_eq w (codes "Y")) (Ok (Named Y)) (cond (bytes_eq w (codes "Z")) (Ok (Named Z)) (Err NoAxis)))

abbrev pub screw_statement : Option ℕ → Result Statement What
screw_statement None = Err NoScrew
screw_statement (Some n) = Ok (Numbered n)

abbrev pub errors_statement : Option ℤ → Option ℤ → Result Statement What
errors_statement None b = Err Number
errors_statement (Some f) None = Err Number
errors_statement (Some f) (Some b) = Ok (Errors (record { forward = f; back = b }))

-- what a line of two words says
abbrev pub pair_statement : List ℕ → List ℕ → Result Statement What
pair_statement a b = cond (bytes_eq a (codes "axis")) (axis_statement b) (cond (bytes_eq a (codes "screw")) (screw_statement (numeral 65535 b)) (errors_statement (signed_in a) (signed_in b)))

-- a line that says something
abbrev pub said : Result Statement What → Result (Option Statement) What
said (Err w) = Err w
said (Ok row) = Ok (Some row)

abbrev pub statement_of : List (List ℕ) → Result (Option Statement) What
statement_of [] = Ok None
statement_of (a ∷ []) = Err Words
statement_of (a ∷ b ∷ []) = said (pair_statement a b)
statement_of (a ∷ b ∷ c ∷ ws) = Err Words

-- what a line says, up to a `#`
abbrev pub statement_in : List ℕ → Result (Option Statement) What
statement_in line = statement_of (words_of (before 35 line))

-- what is known so far: nothing, the axis or the screw, or a table with both
pub data Sofar : Type 0 where
  start : Sofar
  has_axis : Axis → Sofar
  has_screw : ℕ → Sofar
  ready : Parts → Sofar

abbrev pub sofar_of : Reading → Sofar
sofar_of Start = start
sofar_of (HasAxis a) = has_axis a
sofar_of (HasScrew s) = has_screw s
sofar_of (Ready t) = ready (parts_of t)

abbrev pub named : Axis → Sofar → Result Sofar What
named a start = Ok (has_axis a)
named a (has_axis b) = Err Twice
named a (has_screw s) = Ok (ready (record { axis = a; screw = s; entries = [] }))
named a (ready p) = Err Twice

abbrev pub numbered : ℕ → Sofar → Result Sofar What
numbered s start = Ok (has_screw s)
numbered s (has_axis a) = Ok (ready (record { axis = a; screw = s; entries = [] }))
numbered s (has_screw t) = Err Twice
numbered s (ready p) = Err Twice

abbrev pub measured : Entry → Sofar → Result Sofar What
measured e start = Err Early
measured e (has_axis a) = Err Early
measured e (has_screw s) = Err Early
measured e (ready p) = cond (nat_lt (length p.entries) most_millimetres) (Ok (ready (record { axis = p.axis; screw = p.screw; entries = p.entries ++ e ∷ [] }))) (Err TooMany)

abbrev pub taken : Statement → Sofar → Result Sofar What
taken (Named a) s = named a s
taken (Numbered n) s = numbered n s
taken (Errors e) s = measured e s

abbrev pub line_taken : Result (Option Statement) What → Sofar → Result Sofar What
line_taken (Err w) s = Err w
line_taken (Ok None) s = Ok s
line_taken (Ok (Some row)) s = taken row s

-- the answer is what was wanted, unless no fault was and there is not enough memory
abbrev pub Takes : Result Reading What → Result Sofar What → Type 0
Takes (Ok s) want = want ≡ Ok (sofar_of s)
Takes (Err e) want = (want ≡ Err e) ⊎ ((e ≡ Memory) × (is_ok want ≡ true))

abbrev pub at_end : ℕ → Sofar → Result Parts TextFault
at_end n start = Err (record { line = n; what = Missing })
at_end n (has_axis a) = Err (record { line = n; what = Missing })
at_end n (has_screw s) = Err (record { line = n; what = Missing })
at_end n (ready p) = Ok p

-- a fault is one of line n
abbrev pub go_on : ℕ → Result Sofar What → (Sofar → Result Parts TextFault) → Result Parts TextFault
go_on n (Err w) next = Err (record { line = n; what = w })
go_on n (Ok s) next = next s

-- what the lines after the first n add to s
abbrev pub read_lines : ℕ → Sofar → List (List ℕ) → Result Parts TextFault
read_lines n s [] = at_end n s
read_lines n s (l ∷ ls) = go_on (n + 1) (line_taken (statement_in l) s) (λ t. read_lines (n + 1) t ls)

-- the table of a text, or the first fault in it with its line
abbrev pub read_text : List ℕ → Result Parts TextFault
read_text text = read_lines 0 start (lines_of text)

-- line n is not after the line of the first fault
abbrev pub NotAfter : ℕ → Result Parts TextFault → Type 0
NotAfter n (Ok p) = Unit {0}
NotAfter n (Err f) = n ≤ f.line

-- of so many lines: the answer is what was wanted, unless there is not enough memory at one of the lines, not after the first fault
abbrev pub Reads : ℕ → Result Table TextFault → Result Parts TextFault → Type 0
Reads count (Ok t) want = want ≡ Ok (parts_of t)
Reads count (Err f) want = (want ≡ Err f) ⊎ ((f.what ≡ Memory) × (1 ≤ f.line) × (f.line ≤ count) × NotAfter f.line want)

-- the line of one millimetre
abbrev pub line_of : Entry → List ℕ
line_of e = signed_decimal e.forward ++ (codes " " ++ (signed_decimal e.back ++ codes "\n"))

abbrev pub head_lines : Axis → ℕ → List ℕ
head_lines a s = codes "axis " ++ (axis_name a ++ (codes "\nscrew " ++ (decimal s ++ codes "\n")))

-- the text of a table
abbrev pub text_of : Parts → List ℕ
text_of p = head_lines p.axis p.screw ++ flat_map line_of p.entries
