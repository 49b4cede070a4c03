-- Commands by the numbers of the buffers that they name.
use Rattle.std.specs.Prelude.{ℕ, List, [], ◌∷◌, map}
use Rattle.ed_base.specs.declared.Member.{Member}
use Rattle.ed_base.specs.declared.ScriptSpan.{ScriptSpan}
use Rattle.ed_machine.specs.State.{State, number}

-- the member that a span of a script asks for
abbrev pub member_of : State → ScriptSpan → Member
member_of s (ScriptSpan.Literal units) = Member.Literal units
member_of s (ScriptSpan.Tracked name start len mode) = Member.Tracked (number s name) (record { start = start; len = len }) mode

abbrev pub members : State → List ScriptSpan → List Member
members s spans = map (member_of s) spans

-- the buffers that spans of a script name
abbrev pub names_in : List ScriptSpan → List (List ℕ)
names_in [] = []
names_in (ScriptSpan.Literal units ∷ ss) = names_in ss
names_in (ScriptSpan.Tracked name start len mode ∷ ss) = name ∷ names_in ss
