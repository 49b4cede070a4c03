-- From the parts of a replay to the main theorem.
use Rattle.std.proofs.Common.{◌≡◌, ◌⊎◌, inl, inr, ℕ, ◌+◌, ◌<◌, ◌≤◌, ◌^◌, Bool, true, false, List, [], Option, Some, None, refl, sym, ap, ◌∙◌, subst, length}
use Rattle.std.proofs.KnownBytes.{Appends-nil}
use Rattle.std.proofs.lemmas.Option.{none-some}
use Rattle.std.proofs.lemmas.Bool.{lt-ltb}
use Rattle.ed_io.specs.Bytes.{Took, NoneLeft}
use Rattle.ed_base.specs.Hooks.{HookTable}
use Rattle.ed_script.specs.declared.BadLine.{BadLine}
use Rattle.ed_script.specs.Script.{script_of}
use Rattle.ed_entry.specs.declared.Entry.{Entry}
use Rattle.ed_machine.specs.History.{alone}
use Rattle.ed_render.specs.Lines.{render}
use Rattle.ed_replay.specs.declared.report.Status.{Status}
use Rattle.ed_replay.specs.Calls.{Call, ReadFailed, WriteFailed}
use Rattle.ed_replay.specs.Replaying.{ending, EndsAs, Performs, Plays}
use Rattle.ed_replay.specs.Headline.{HasCause, Replays}
use Rattle.ed_replay.specs.Lawful.{AreLawful}
use Rattle.ed_replay.proofs.Moving.{front_of_none}
use Rattle.ed_replay.proofs.Legal.{legal_done}

-- ---- nothing was done

pub nothing_performed : (all : List Entry) (a : Option (List ℕ)) (usual : Status) (failed : Type 0) (status : Status) (entries : List Entry) → status ≡ Status.Memory → entries ≡ [] → Performs all a a usual failed status entries
nothing_performed all a usual failed status entries memory none = record {
  done = rw (memory, none) (all, refl);
  lines = rw (memory) (front_of_none a (render entries));
  ends = inr (inr memory);
}

-- ---- causes

usual_cause : (c : Call) (ended : Bool) (bad : Option BadLine) → (bad ≡ None → ended ≡ true) → HasCause c ended bad (ending bad)
usual_cause c ended None met = (met refl, refl)
usual_cause c ended (Some bad) met = refl

cause_of : (c : Call) (ended : Bool) (bad : Option BadLine) (status : Status) → (bad ≡ None → ended ≡ true) → EndsAs (ending bad) (WriteFailed c) status → HasCause c ended bad status
cause_of c ended bad status met ends = elim ends [
  | inl usual ↦ (let P : Status → Type 0 = HasCause c ended bad in subst P (sym usual) (usual_cause c ended bad met))
  | inr (inl failed) ↦ (let P : Status → Type 0 = HasCause c ended bad in subst P (sym failed.0) failed.1)
  | inr (inr memory) ↦ (let P : Status → Type 0 = HasCause c ended bad in subst P (sym memory) tt)
]

usually : (bad : Option BadLine) (status usual : Status) (failed : Type 0) → usual ≡ ending bad → ¬ failed → EndsAs (ending bad) failed status → (status ≡ usual) ⊎ (status ≡ Status.Memory)
usually bad status usual failed is unfailed ends = elim ends [
  | inl e ↦ inl (e ∙ sym is)
  | inr (inl f) ↦ absurd (unfailed f.1)
  | inr (inr memory) ↦ inr memory
]

true-false : true ≡ false → ⊥
true-false e = cc

unmet : (read : List ℕ) (ended : Bool) → ((script_of read ended).bad ≡ None → ended ≡ true) → ended ≡ false → ¬ ((script_of read false).bad ≡ None)
unmet read ended met e none = true-false (sym (met (ap (λ b. (script_of read b).bad) e ∙ none)) ∙ e)

-- ---- the whole

pub played : (hooks : HookTable) (c : Call) (read : List ℕ) (ended : Bool) → Took c.left_before read c.left_after → length read ≤ 2 ^ 20 + 1 → (ended ≡ true → NoneLeft c.left_after) → ((script_of read ended).bad ≡ None → ended ≡ true) → Plays hooks read ended c.held_before c.held_after (WriteFailed c) c.status c.entries → AreLawful hooks c.entries → Replays hooks c
played hooks c read ended took bound end met plays lawful = record {
  read = read;
  ended = ended;
  took = took;
  bound = bound;
  legal = legal_done hooks c.status c.entries (script_of read ended).commands plays.done;
  lawful = lawful;
  lines = plays.lines;
  commands = plays.done;
  end_met = end;
  end_not_met = λ e. inr (inr (unmet read ended met e));
  cause = cause_of c ended (script_of read ended).bad c.status met plays.ends;
  bad_line = λ bad e unread unwritten. usually (script_of read ended).bad c.status (Status.BadScript bad.line bad.kind) (WriteFailed c) (sym (ap ending e)) unwritten plays.ends;
  complete = λ e unread unwritten. usually (script_of read ended).bad c.status Status.Done (WriteFailed c) (sym (ap ending e)) unwritten plays.ends;
}

pub unread : (hooks : HookTable) (c : Call) (read : List ℕ) → Took c.left_before read c.left_after → length read ≤ 2 ^ 20 + 1 → ReadFailed c → c.held_after ≡ c.held_before → c.status ≡ Status.ReadFault → c.entries ≡ [] → Replays hooks c
unread hooks c read took bound failed same fault none = record {
  read = read;
  ended = false;
  took = took;
  bound = bound;
  legal = rw none tt;
  lawful = subst (AreLawful hooks) (sym none) tt;
  lines = rw (fault, none, same) (Appends-nil c.held_before);
  commands = rw fault none;
  end_met = λ e. absurd (true-false (sym e));
  end_not_met = λ e. inl failed;
  cause = rw fault (refl, failed);
  bad_line = λ bad e unfailed unwritten. absurd (unfailed failed);
  complete = λ e unfailed unwritten. absurd (unfailed failed);
}

pub forgotten : (hooks : HookTable) (c : Call) (read : List ℕ) → Took c.left_before read c.left_after → length read ≤ 2 ^ 20 + 1 → c.held_after ≡ c.held_before → c.status ≡ Status.Memory → c.entries ≡ [] → Replays hooks c
forgotten hooks c read took bound same memory none = record {
  read = read;
  ended = false;
  took = took;
  bound = bound;
  legal = rw none tt;
  lawful = subst (AreLawful hooks) (sym none) tt;
  lines = rw (memory, same) (front_of_none c.held_before (render c.entries));
  commands = rw (memory, none) (alone hooks (script_of read false).commands, refl);
  end_met = λ e. absurd (true-false (sym e));
  end_not_met = λ e. inr (inl memory);
  cause = rw memory tt;
  bad_line = λ bad e unfailed unwritten. inr memory;
  complete = λ e unfailed unwritten. inr memory;
}

-- ---- a script of too many bytes

pub too_long : (bytes : List ℕ) (ended : Bool) → 2 ^ 20 < length bytes → ¬ ((script_of bytes ended).bad ≡ None)
unfolding script_of
too_long bytes ended long none = none-some _ (sym (rw (lt-ltb (2 ^ 20) (length bytes) long) at none))
