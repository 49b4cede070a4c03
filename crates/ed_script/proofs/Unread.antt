-- A script, by what was read of it and what is unread.
use Rattle.std.proofs.Common.{◌≡◌, ℕ, ◌+◌, Bool, List, ◌++◌, take, drop, Option, Some, None, Ok, Err, refl, sym, ◌∙◌, ap, append_assoc, append-nil}
use Rattle.std.specs.Prelude.{nat_eq, position}
use Rattle.ed_script.specs.declared.kinds.Command.{Command}
use Rattle.ed_script.specs.declared.bad.BadKind.{BadKind}
use Rattle.ed_script.specs.Script.{Script, line_command, then_script, last_line, unread, listed, bad_at, with_commands}
use Rattle.ed_script.proofs.Cuts.{cut-some, cut-none}

unread-some : (ended : Bool) (n : ℕ) (bytes : List ℕ) (e : ℕ) → position (λ b. nat_eq b 10) bytes ≡ Some e → unread ended n bytes ≡ then_script n (line_command (take e bytes)) (unread ended (n + 1) (drop (e + 1) bytes))
unread-some ended n bytes e at_end = rw (cut-some bytes e at_end) refl

pub unread-none : (whole : Script) (cs : List Command) (ended : Bool) (n : ℕ) (bytes : List ℕ) → whole ≡ with_commands cs (unread ended n bytes) → position (λ b. nat_eq b 10) bytes ≡ None → whole ≡ with_commands cs (last_line ended n bytes)
unread-none whole cs ended n bytes before no_end = before ∙ rw (cut-none bytes no_end) refl

pub unread-ok : (whole : Script) (cs more : List Command) (ended : Bool) (n : ℕ) (bytes rest : List ℕ) (e : ℕ) (o : Option Command) → whole ≡ with_commands cs (unread ended n bytes) → position (λ b. nat_eq b 10) bytes ≡ Some e → line_command (take e bytes) ≡ Ok o → more ≡ cs ++ listed o → rest ≡ drop (e + 1) bytes → whole ≡ with_commands more (unread ended (n + 1) rest)
unread-ok whole cs more ended n bytes rest e o before at_end gives added after = before ∙ rw (unread-some ended n bytes e at_end, gives, added, after, append_assoc) refl

pub unread-bad : (whole : Script) (cs more : List Command) (ended : Bool) (n : ℕ) (bytes : List ℕ) (e : ℕ) (kind : BadKind) → whole ≡ with_commands cs (unread ended n bytes) → position (λ b. nat_eq b 10) bytes ≡ Some e → line_command (take e bytes) ≡ Err kind → more ≡ cs → (more ≡ whole.commands) × ((bad_at n kind).bad ≡ whole.bad)
unread-bad whole cs more ended n bytes e kind before at_end gives same =
    let all : whole ≡ with_commands more (bad_at n kind) = before ∙ rw (unread-some ended n bytes e at_end, gives, same) refl in
    (sym (ap (λ (s : Script). s.commands) all ∙ append-nil more), sym (ap (λ (s : Script). s.bad) all))
