use Rattle.std.proofs.Common.{◌≡◌, ◌+◌, ◌-◌, length, arith, ap, length-drop, subst, sym, ◌∙◌, Err, IfOk}
use Rattle.std.specs.Prelude.{nat_eq}
use Rattle.std.proofs.lemmas.List.Quantifiers.{position-Some}
use Rattle.ed_script.specs.declared.bad.BadKind.{BadKind}
use Rattle.ed_script.specs.Script.{Script, script_of, line_command, IsScript}
use Rattle.ed_script.proofs.Unread.{unread-none, unread-ok, unread-bad}
use Rattle.ed_script.proofs.reader.read_script.Goals as goal

pub returns-in-Err-NotJson : goal.returns-in-Err-NotJson
returns-in-Err-NotJson c =
    let found = c.in-Err-NotJson.ensures.not_json (ap Err c.in-Err-NotJson.field-0-is) in
    let e = unread-bad (script_of c.args.bytes.now c.args.ended) c.loop-end.commands.items c.add_line.new.commands.items c.args.ended c.loop-end.number c.loop-end.rest.now c.in-Some.end BadKind.NotJson c.loop-end.invariant.before (sym c.in-Some.ensures) (ap line_command (sym c.line_before.ensures) ∙ found.0) found.1 in
    (ap (λ v. v.items) c.bad_at-in-Err-NotJson.ensures.commands ∙ e.0, c.bad_at-in-Err-NotJson.ensures.bad ∙ e.1)

pub returns-in-Err-NotCommand : goal.returns-in-Err-NotCommand
returns-in-Err-NotCommand c =
    let found = c.in-Err-NotCommand.ensures.not_command (ap Err c.in-Err-NotCommand.field-0-is) in
    let e = unread-bad (script_of c.args.bytes.now c.args.ended) c.loop-end.commands.items c.add_line.new.commands.items c.args.ended c.loop-end.number c.loop-end.rest.now c.in-Some.end BadKind.NotCommand c.loop-end.invariant.before (sym c.in-Some.ensures) (ap line_command (sym c.line_before.ensures) ∙ found.0) found.1 in
    (ap (λ v. v.items) c.bad_at-in-Err-NotCommand.ensures.commands ∙ e.0, c.bad_at-in-Err-NotCommand.ensures.bad ∙ e.1)

pub loop-end-preserved : goal.loop-end-preserved
loop-end-preserved c = record {
  before = unread-ok (script_of c.args.bytes.now c.args.ended) c.loop-end.commands.items c.add_line.new.commands.items c.args.ended c.loop-end.number c.loop-end.rest.now c.rest_after-rest.result.now c.in-Some.end _ c.loop-end.invariant.before (sym c.in-Some.ensures) (ap line_command (sym c.line_before.ensures) ∙ c.in-Ok.ensures.ok.1) c.in-Ok.ensures.ok.2 c.rest_after-rest.ensures;
  few = let within = (position-Some (λ b. nat_eq b 10) c.loop-end.rest.now c.in-Some.end 0 (sym c.in-Some.ensures)).0 in let l : length c.rest_after-rest.result.now ≡ length c.loop-end.rest.now - (c.in-Some.end + 1) = ap length c.rest_after-rest.ensures ∙ length-drop (c.in-Some.end + 1) c.loop-end.rest.now in omega arith;
}

pub returns : goal.returns
returns c =
    let e = unread-none (script_of c.args.bytes.now c.args.ended) c.loop-end.commands.items c.args.ended c.loop-end.number c.loop-end.rest.now c.loop-end.invariant.before (sym c.in_default.ensures) in
    let P : Script → Type 0 = λ x. IfOk c.with_last_line.result (λ s. IsScript s x) in
    subst P (sym e) c.with_last_line.ensures
