-- How refusals are printed: the number, the name and the fields, each after a blank.
use Rattle.std.specs.Prelude.{ℕ, List, ◌++◌, codes, decimal}
use Rattle.ed_base.specs.declared.Span.{Span}
use Rattle.ed_base.specs.declared.Which.{Which}
use Rattle.ed_base.specs.declared.What.{What}
use Rattle.ed_base.specs.declared.Refusal.{Refusal}
use Rattle.ed_base.specs.Spans.{end_of}

-- `[s,e)`
abbrev pub span_text : Span → List ℕ
span_text s = codes "[" ++ (decimal s.start ++ (codes "," ++ (decimal (end_of s) ++ codes ")")))

abbrev pub which_text : Which → List ℕ
which_text Which.Buffers = codes "Buffers"
which_text Which.Units = codes "Units"
which_text Which.Inserted = codes "Inserted"
which_text Which.Versions = codes "Versions"
which_text Which.Members = codes "Members"
which_text Which.Placements = codes "Placements"
which_text Which.Taggers = codes "Taggers"
which_text Which.Aggregators = codes "Aggregators"
which_text Which.Regions = codes "Regions"
which_text Which.Answers = codes "Answers"

abbrev pub what_text : What → List ℕ
what_text What.Version = codes "Version"
what_text What.Tagger = codes "Tagger"
what_text What.Region = codes "Region"
what_text What.Aggregator = codes "Aggregator"
what_text What.Hook = codes "Hook"

-- two numbers, with a blank between them
abbrev pub two_numbers : ℕ → ℕ → List ℕ
two_numbers a b = decimal a ++ (codes " " ++ decimal b)

abbrev pub refusal_text : Refusal → List ℕ
refusal_text Refusal.NoBuffer = codes "refused 1 NoBuffer"
refusal_text Refusal.NameTaken = codes "refused 2 NameTaken"
refusal_text Refusal.WrongKind = codes "refused 3 WrongKind"
refusal_text (Refusal.Stale now) = codes "refused 4 Stale " ++ decimal now
refusal_text (Refusal.OutOfRange end len) = codes "refused 5 OutOfRange " ++ two_numbers end len
refusal_text (Refusal.Literal buffer span) = codes "refused 6 Literal " ++ (decimal buffer ++ (codes " " ++ span_text span))
refusal_text (Refusal.NoPlace buffer gap) = codes "refused 7 NoPlace " ++ two_numbers buffer gap
refusal_text (Refusal.ReadOnly buffer region) = codes "refused 8 ReadOnly " ++ two_numbers buffer region
refusal_text (Refusal.Mode index) = codes "refused 9 Mode " ++ decimal index
refusal_text (Refusal.Overlap index other) = codes "refused 10 Overlap " ++ two_numbers index other
refusal_text (Refusal.Cycle via) = codes "refused 11 Cycle " ++ decimal via
refusal_text (Refusal.Depth height) = codes "refused 12 Depth " ++ decimal height
refusal_text Refusal.NothingToUndo = codes "refused 13 NothingToUndo"
refusal_text Refusal.NothingToRedo = codes "refused 14 NothingToRedo"
refusal_text (Refusal.NoSuch what) = codes "refused 15 NoSuch " ++ what_text what
refusal_text (Refusal.Limit which count) = codes "refused 16 Limit " ++ (which_text which ++ (codes " " ++ decimal count))
