-- Worked examples of the machine, by computing: the replies to a list of commands.
use Rattle.std.proofs.Common.{◌≡◌, ℕ, List, [], ◌∷◌, Some, None, map, refl}
use Rattle.std.specs.Prelude.{codes}
use Rattle.ed_base.specs.declared.SpanMode.{SpanMode}
use Rattle.ed_base.specs.declared.EdgeMode.{EdgeMode}
use Rattle.ed_base.specs.declared.SpanHow.{SpanHow}
use Rattle.ed_base.specs.declared.Span.{Span}
use Rattle.ed_base.specs.declared.PointMode.{PointMode}
use Rattle.ed_base.specs.declared.QueryRule.{QueryRule}
use Rattle.ed_base.specs.declared.CustomRule.{CustomRule}
use Rattle.ed_base.specs.declared.What.{What}
use Rattle.ed_base.specs.declared.Replace.{Replace}
use Rattle.ed_base.specs.declared.ScriptSpan.{ScriptSpan}
use Rattle.ed_base.specs.declared.Refusal.{Refusal}
use Rattle.ed_base.specs.declared.CutRule.{CutRule}
use Rattle.ed_base.specs.Hooks.{HookTable, CutRules}
use Rattle.ed_base.specs.ChangeList.{ChangeList, change}
use Rattle.ed_script.specs.declared.Command.{Command}
use Rattle.ed_version.specs.declared.Snapshot.{Snapshot}
use Rattle.ed_entry.specs.declared.Reply.{Reply}
use Rattle.ed_machine.specs.History.{alone}
use Rattle.ed_machine.proofs.OnLiterals.{machine_on_literals}

-- ---- written shorter

abbrev no_hooks : HookTable
no_hooks = record { resolvers = []; queries = []; customs = [] }

abbrev replies_with : HookTable → List Command → List Reply
replies_with hooks commands = map (λ e. e.reply) (alone hooks commands)

abbrev replies : List Command → List Reply
replies commands = replies_with no_hooks commands

abbrev same_cuts : CutRule → CutRules
same_cuts rule = record { on_insert = rule; on_replace = rule }

abbrev some_hooks : HookTable
some_hooks = record { resolvers = (codes "first", same_cuts CutRule.First) ∷ (codes "even", same_cuts CutRule.Even) ∷ []; queries = (codes "edit_only", QueryRule.EditOnly) ∷ []; customs = (codes "caret", CustomRule.Caret) ∷ [] }

abbrev r : ℕ → ℕ → List ℕ → Replace
r s l t = record { start = s; len = l; text = t }

abbrev literal : List ℕ → ScriptSpan
literal text = ScriptSpan.Literal text

abbrev exclusive : List ℕ → ℕ → ℕ → ScriptSpan
exclusive name s l = ScriptSpan.Tracked name s l SpanMode.EdgeExclusive

abbrev inclusive : List ℕ → ℕ → ℕ → ScriptSpan
inclusive name s l = ScriptSpan.Tracked name s l SpanMode.EdgeInclusive

abbrev edit : List ℕ → List Replace → Command
edit name replaces = Command.Edit name replaces None

abbrev projection : List ℕ → List ScriptSpan → Command
projection name members = Command.Projection name members None

abbrev spans : List ℕ → ℕ → ℕ → List ScriptSpan → Command
spans name first count added = Command.Spans name first count added None

abbrev pair : ℕ → ℕ → Span
pair s l = record { start = s; len = l }

abbrev elision : List ℕ → List ℕ → List Span → Command
elision name source hide = Command.Elision name source hide None

abbrev elide : List ℕ → List Span → List Span → Command
elide name hide show = Command.Elide name hide show None

abbrev text : List ℕ → Command
text name = Command.Text name None

abbrev shown : ℕ → ℕ → List ℕ → Reply
shown b v units = Reply.Text (shot b v units)
  where
    shot : ℕ → ℕ → List ℕ → Snapshot
    shot b v units = record { buffer = b; version = v; text = units }

abbrev changes : ℕ → ℕ → ℕ → List ℕ → Reply
changes old_len start gone units = Reply.Changes (list old_len start gone units)
  where
    list : ℕ → ℕ → ℕ → List ℕ → ChangeList
    list old_len start gone units = record { old_len = old_len; changes = change start gone units ∷ [] }

abbrev a : List ℕ
a = codes "a"

abbrev e : List ℕ
e = codes "e"

abbrev p : List ℕ
p = codes "p"

abbrev q : List ℕ
q = codes "q"

-- ---- rows

-- an edit of a base rises through two projections
rises : replies (
    Command.Buffer a (codes "abcd")
    ∷ projection p (literal (codes "<") ∷ exclusive a 2 2 ∷ literal (codes ">") ∷ [])
    ∷ projection q (exclusive a 0 2 ∷ exclusive p 1 2 ∷ [])
    ∷ edit a (r 1 2 (codes "XY") ∷ [])
    ∷ text a ∷ text p ∷ text q ∷ [])
    ≡ Reply.Made 0 ∷ Reply.Made 1 ∷ Reply.Made 2 ∷ Reply.Edited ((0, 1) ∷ (1, 1) ∷ (2, 1) ∷ [])
    ∷ shown 0 1 (codes "aXYd") ∷ shown 1 1 (codes "<d>") ∷ shown 2 1 (codes "ad") ∷ []
unfolding machine_on_literals
rises = refl

-- members are put in, and a range past them is refused
members_put_in : replies (
    Command.Buffer a (codes "abcdef")
    ∷ projection p (exclusive a 0 3 ∷ [])
    ∷ spans p 1 0 (literal (codes "-") ∷ exclusive a 3 3 ∷ [])
    ∷ Command.Changes p 0
    ∷ spans p 3 1 [] ∷ [])
    ≡ Reply.Made 0 ∷ Reply.Made 1 ∷ Reply.Edited ((1, 1) ∷ [])
    ∷ changes 3 3 0 (codes "-def")
    ∷ Reply.Refused (Refusal.OutOfRange 4 3) ∷ []
unfolding machine_on_literals
members_put_in = refl

-- a projection isn't put over itself
cycle_refused : replies (
    Command.Buffer a (codes "a")
    ∷ projection p (exclusive a 0 1 ∷ [])
    ∷ projection q (exclusive p 0 1 ∷ [])
    ∷ spans p 0 1 (exclusive q 0 1 ∷ []) ∷ [])
    ≡ Reply.Made 0 ∷ Reply.Made 1 ∷ Reply.Made 2 ∷ Reply.Refused (Refusal.Cycle 2) ∷ []
unfolding machine_on_literals
cycle_refused = refl

abbrev over : List ℕ → List ℕ → Command
over name source = projection name (exclusive source 0 1 ∷ [])

-- eight projections over each other are taken, and the ninth is refused
ninth_refused : replies (
    Command.Buffer (codes "p0") (codes "a")
    ∷ over (codes "p1") (codes "p0") ∷ over (codes "p2") (codes "p1") ∷ over (codes "p3") (codes "p2")
    ∷ over (codes "p4") (codes "p3") ∷ over (codes "p5") (codes "p4") ∷ over (codes "p6") (codes "p5")
    ∷ over (codes "p7") (codes "p6") ∷ over (codes "p8") (codes "p7") ∷ over (codes "p9") (codes "p8") ∷ [])
    ≡ Reply.Made 0 ∷ Reply.Made 1 ∷ Reply.Made 2 ∷ Reply.Made 3 ∷ Reply.Made 4
    ∷ Reply.Made 5 ∷ Reply.Made 6 ∷ Reply.Made 7 ∷ Reply.Made 8 ∷ Reply.Refused (Refusal.Depth 9) ∷ []
unfolding machine_on_literals
ninth_refused = refl

-- the refusals in their order, each after those before it have passed
refusals : replies (
    Command.Buffer a (codes "abc")
    ∷ projection p (exclusive a 0 3 ∷ [])
    ∷ edit (codes "z") []
    ∷ Command.Buffer a []
    ∷ Command.Region p 0 1 EdgeMode.Deny SpanMode.EdgeExclusive None
    ∷ edit p (r 9 0 [] ∷ [])
    ∷ Command.Edit a [] (Some 1)
    ∷ edit a (r 4 0 [] ∷ [])
    ∷ edit a (r 3 0 (codes "d") ∷ [])
    ∷ projection q (inclusive a 0 2 ∷ [])
    ∷ projection q (exclusive a 0 2 ∷ exclusive a 1 2 ∷ []) ∷ [])
    ≡ Reply.Made 0 ∷ Reply.Made 1
    ∷ Reply.Refused Refusal.NoBuffer ∷ Reply.Refused Refusal.NameTaken ∷ Reply.Refused Refusal.WrongKind ∷ Reply.Refused (Refusal.OutOfRange 9 3)
    ∷ Reply.Refused (Refusal.Stale 0) ∷ Reply.Refused (Refusal.OutOfRange 4 3)
    ∷ Reply.Edited ((0, 1) ∷ (1, 1) ∷ [])
    ∷ Reply.Refused (Refusal.Mode 0) ∷ Reply.Refused (Refusal.Overlap 0 1) ∷ []
unfolding machine_on_literals
refusals = refl

-- a source that isn't there comes before a name that is taken
source_before_name : replies (
    Command.Buffer a []
    ∷ projection a (exclusive (codes "z") 0 0 ∷ [])
    ∷ projection a [] ∷ [])
    ≡ Reply.Made 0 ∷ Reply.Refused Refusal.NoBuffer ∷ Reply.Refused Refusal.NameTaken ∷ []
unfolding machine_on_literals
source_before_name = refl

-- an overlap names indices of the list that would result
overlap_of_the_result : replies (
    Command.Buffer a (codes "abcd")
    ∷ projection p (exclusive a 0 2 ∷ [])
    ∷ spans p 1 0 (exclusive a 1 2 ∷ []) ∷ [])
    ≡ Reply.Made 0 ∷ Reply.Made 1 ∷ Reply.Refused (Refusal.Overlap 0 1) ∷ []
unfolding machine_on_literals
overlap_of_the_result = refl

-- a region with a query denies edits alone, and only inside
edits_denied : replies_with some_hooks (
    Command.Buffer a (codes "abc")
    ∷ Command.Region a 0 3 EdgeMode.Allow SpanMode.EdgeExclusive (Some (codes "edit_only"))
    ∷ Command.Readonly a 1 0
    ∷ edit a (r 1 0 (codes "x") ∷ [])
    ∷ edit a (r 3 0 (codes "x") ∷ [])
    ∷ Command.Unregion a 0
    ∷ Command.Unregion a 0 ∷ [])
    ≡ Reply.Made 0 ∷ Reply.Region 0 ∷ Reply.Free ∷ Reply.Refused (Refusal.ReadOnly 0 0) ∷ Reply.Edited ((0, 1) ∷ [])
    ∷ Reply.Removed ∷ Reply.Refused (Refusal.NoSuch What.Region) ∷ []
unfolding machine_on_literals
edits_denied = refl

-- a point and spans of a base and of a projection go along
abbrev moved : ℕ → ℕ → Reply
moved start len = Reply.Span (span start len)
  where
    span : ℕ → ℕ → Span
    span start len = record { start = start; len = len }

tracked : replies_with some_hooks (
    Command.Buffer a (codes "abcdefghi")
    ∷ projection p (literal (codes "-") ∷ exclusive a 0 9 ∷ [])
    ∷ edit a (r 3 0 (codes "X") ∷ r 6 0 (codes "X") ∷ [])
    ∷ Command.Span a 3 3 (SpanHow.Mode SpanMode.EdgeExclusive) (Some 0) None
    ∷ Command.Span p 4 3 (SpanHow.Mode SpanMode.EdgeInclusive) (Some 0) (Some 1)
    ∷ Command.Span a 3 3 (SpanHow.Custom (codes "caret")) (Some 0) None
    ∷ Command.Point p 4 PointMode.Positive (Some 0) None
    ∷ Command.Point p 5 PointMode.Negative (Some 1) (Some 0)
    ∷ Command.Versions p
    ∷ Command.Point p 11 PointMode.Positive (Some 0) None ∷ [])
    ≡ Reply.Made 0 ∷ Reply.Made 1 ∷ Reply.Edited ((0, 1) ∷ (1, 1) ∷ [])
    ∷ moved 4 3 ∷ moved 4 5 ∷ moved 8 0 ∷ Reply.At 5 ∷ Reply.At 4 ∷ Reply.Versions (0 ∷ 1 ∷ [])
    ∷ Reply.Refused (Refusal.OutOfRange 11 10) ∷ []
unfolding machine_on_literals
tracked = refl

-- ---- edits of projections

-- what two members may take goes whole to the first, also where one of them stands over the other's source
resolved : replies_with some_hooks (
    Command.Buffer a (codes "abcd")
    ∷ projection p (literal (codes "<") ∷ exclusive a 2 2 ∷ literal (codes ">") ∷ [])
    ∷ Command.Projection q (exclusive a 0 2 ∷ exclusive p 1 2 ∷ []) (Some (codes "first"))
    ∷ edit q (r 1 2 (codes "XY") ∷ [])
    ∷ text a ∷ text p ∷ text q ∷ [])
    ≡ Reply.Made 0 ∷ Reply.Made 1 ∷ Reply.Made 2 ∷ Reply.Edited ((0, 1) ∷ (1, 1) ∷ (2, 1) ∷ [])
    ∷ shown 0 1 (codes "aXYd") ∷ shown 1 1 (codes "<d>") ∷ shown 2 1 (codes "aXYd") ∷ []
unfolding machine_on_literals
resolved = refl

-- a resolver that isn't there is refused after the depth, and before limits
no_resolver : replies_with some_hooks (
    Command.Buffer a (codes "ab")
    ∷ Command.Projection p (exclusive a 0 1 ∷ exclusive a 0 1 ∷ []) (Some (codes "last"))
    ∷ Command.Projection p (exclusive a 0 1 ∷ []) (Some (codes "last")) ∷ [])
    ≡ Reply.Made 0 ∷ Reply.Refused (Refusal.Overlap 0 1) ∷ Reply.Refused (Refusal.NoSuch What.Hook) ∷ []
unfolding machine_on_literals
no_resolver = refl

abbrev literal_gone : ℕ → ℕ → ℕ → Reply
literal_gone b start len = Reply.Refused (Refusal.Literal b (part start len))
  where
    part : ℕ → ℕ → Span
    part start len = record { start = start; len = len }

-- literals stay, and what none can take has no place
not_sent : replies (
    Command.Buffer a (codes "abc")
    ∷ projection p (exclusive a 0 1 ∷ literal (codes "--") ∷ exclusive a 1 2 ∷ [])
    ∷ edit p (r 2 0 (codes "X") ∷ [])
    ∷ edit p (r 0 2 [] ∷ [])
    ∷ edit p []
    ∷ edit p (r 1 0 (codes "X") ∷ r 4 1 [] ∷ [])
    ∷ text a ∷ text p ∷ [])
    ≡ Reply.Made 0 ∷ Reply.Made 1 ∷ Reply.Refused (Refusal.NoPlace 1 2) ∷ literal_gone 1 1 1 ∷ Reply.Edited []
    ∷ Reply.Edited ((0, 1) ∷ (1, 1) ∷ [])
    ∷ shown 0 1 (codes "aXb") ∷ shown 1 1 (codes "aX--b") ∷ []
unfolding machine_on_literals
not_sent = refl

-- ---- elision buffers

-- what is typed among hidden text is hidden, and beside shown text it is shown; where all is hidden nothing can be put in
hidden_among : replies (
    Command.Buffer a (codes "abcdefghi")
    ∷ elision e a (pair 3 3 ∷ [])
    ∷ edit a (r 4 0 (codes "X") ∷ r 3 0 (codes "Y") ∷ [])
    ∷ text e
    ∷ Command.Nearest e 5
    ∷ elide e (pair 0 11 ∷ []) []
    ∷ edit e (r 0 0 (codes "Q") ∷ []) ∷ [])
    ≡ Reply.Made 0 ∷ Reply.Made 1 ∷ Reply.Edited ((0, 1) ∷ (1, 1) ∷ [])
    ∷ shown 1 1 (codes "abcYghi")
    ∷ Reply.At 4 ∷ Reply.Edited ((1, 2) ∷ []) ∷ Reply.Refused (Refusal.NoPlace 1 0) ∷ []
unfolding machine_on_literals
hidden_among = refl

-- an edit of a projection over an elision buffer goes through both, at the last place that could take it; what is shown again rises
over_elision : replies (
    Command.Buffer a (codes "abcdef")
    ∷ elision e a (pair 2 2 ∷ [])
    ∷ projection p (exclusive e 0 4 ∷ [])
    ∷ text e ∷ text p
    ∷ edit p (r 2 0 (codes "X") ∷ [])
    ∷ text a ∷ text e ∷ text p
    ∷ elide e [] (pair 2 1 ∷ [])
    ∷ text e ∷ [])
    ≡ Reply.Made 0 ∷ Reply.Made 1 ∷ Reply.Made 2 ∷ shown 1 0 (codes "abef") ∷ shown 2 0 (codes "abef")
    ∷ Reply.Edited ((0, 1) ∷ (1, 1) ∷ (2, 1) ∷ [])
    ∷ shown 0 1 (codes "abcdXef") ∷ shown 1 1 (codes "abXef") ∷ shown 2 1 (codes "abXef")
    ∷ Reply.Edited ((1, 2) ∷ (2, 2) ∷ [])
    ∷ shown 1 2 (codes "abcXef") ∷ []
unfolding machine_on_literals
over_elision = refl

-- the refusals in their order, and what hides nothing anew
elisions_refused : replies (
    Command.Buffer a (codes "abc")
    ∷ elision a (codes "z") []
    ∷ elision a a (pair 0 9 ∷ [])
    ∷ elision e a (pair 0 3 ∷ pair 1 3 ∷ pair 0 5 ∷ [])
    ∷ Command.Elision e a (pair 4 0 ∷ []) (Some (codes "last"))
    ∷ Command.Elision e a [] (Some (codes "last"))
    ∷ elision e a (pair 1 1 ∷ [])
    ∷ Command.Elide (codes "z") [] [] (Some 1)
    ∷ Command.Elide a (pair 0 4 ∷ []) [] (Some 1)
    ∷ Command.Elide e (pair 0 4 ∷ []) [] (Some 1)
    ∷ elide e (pair 0 4 ∷ []) (pair 0 5 ∷ [])
    ∷ elide e (pair 0 3 ∷ []) (pair 0 5 ∷ [])
    ∷ elide e (pair 0 2 ∷ []) (pair 0 1 ∷ [])
    ∷ Command.Nearest a 4
    ∷ Command.Nearest e 4
    ∷ Command.Nearest e 3 ∷ [])
    ≡ Reply.Made 0 ∷ Reply.Refused Refusal.NoBuffer ∷ Reply.Refused Refusal.NameTaken
    ∷ Reply.Refused (Refusal.OutOfRange 4 3) ∷ Reply.Refused (Refusal.OutOfRange 4 3) ∷ Reply.Refused (Refusal.NoSuch What.Hook)
    ∷ Reply.Made 1
    ∷ Reply.Refused Refusal.NoBuffer ∷ Reply.Refused Refusal.WrongKind ∷ Reply.Refused (Refusal.Stale 0)
    ∷ Reply.Refused (Refusal.OutOfRange 4 3) ∷ Reply.Refused (Refusal.OutOfRange 5 3) ∷ Reply.Edited []
    ∷ Reply.Refused Refusal.WrongKind ∷ Reply.Refused (Refusal.OutOfRange 4 3) ∷ Reply.At 2 ∷ []
unfolding machine_on_literals
elisions_refused = refl
