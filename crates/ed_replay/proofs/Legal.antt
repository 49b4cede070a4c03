-- The history of one seat that works alone is legal, and so is each beginning of it; the laws hold along it.
use Rattle.std.proofs.Common.{◌≡◌, List, [], ◌∷◌, ◌++◌, refl, sym, ap, ◌∙◌, subst, append_assoc}
use Rattle.std.proofs.lemmas.List.{append-nil}
use Rattle.ed_base.specs.Hooks.{HookTable}
use Rattle.ed_script.specs.declared.Command.{Command}
use Rattle.ed_entry.specs.declared.Entry.{Entry}
use Rattle.ed_machine.specs.State.{State, empty_state}
use Rattle.ed_machine.specs.Step.{step}
use Rattle.ed_machine.specs.History.{IsLegalFrom, IsLegal, alone_from, alone, after, told}
use Rattle.ed_replay.specs.declared.report.Status.{Status}
use Rattle.ed_replay.specs.Calls.{DoneAs}
use Rattle.ed_replay.specs.Lawful.{AreLawful, AreLawfulFrom, Obeys}

module _ (hooks : HookTable) where
  alone-legal : (s : State) (cs : List Command) → IsLegalFrom hooks s (alone_from hooks s cs)
  alone-legal s [] = tt
  alone-legal s (c ∷ cs) = (refl, alone-legal (after hooks s c) cs)

  beginning : (s : State) (xs ys : List Entry) → IsLegalFrom hooks s (xs ++ ys) → IsLegalFrom hooks s xs
  beginning s [] ys legal = tt
  beginning s (x ∷ xs) ys legal = (legal.0, beginning (step hooks s x.seat x.event).state xs ys legal.1)

  same : (xs ys : List Entry) → xs ≡ ys → IsLegal hooks ys → IsLegal hooks xs
  same xs ys e legal = let P : List Entry → Type 0 = IsLegal hooks in subst P (sym e) legal

  pub legal_done : (status : Status) (entries : List Entry) (cs : List Command) → DoneAs status entries (alone hooks cs) → IsLegal hooks entries
  legal_done Status.Done entries cs done = same entries (alone hooks cs) done (alone-legal empty_state cs)
  legal_done Status.Usage entries cs done = same entries [] done tt
  legal_done (Status.BadScript line kind) entries cs done = same entries (alone hooks cs) done (alone-legal empty_state cs)
  legal_done Status.ReadFault entries cs done = same entries [] done tt
  legal_done Status.WriteFault entries cs done = same entries (alone hooks cs) done (alone-legal empty_state cs)
  legal_done Status.Memory entries cs done = beginning empty_state entries done.0 (let P : List Entry → Type 0 = IsLegal hooks in subst P (sym done.1) (alone-legal empty_state cs))

  -- ---- the laws

  -- what is so of all that may come after the entries
  abbrev Goes : State → List Entry → Type 0
  Goes s entries = (es : List Entry) → AreLawfulFrom hooks s es → AreLawful hooks (entries ++ es)

  pub lawful_told : (s s' : State) (entries entries' : List Entry) (c : Command) → Goes s entries → s' ≡ after hooks s c → entries' ≡ entries ++ told hooks s c ∷ [] → Obeys s s' → Goes s' entries'
  lawful_told s s' entries entries' c so is added obeys es lawful =
      subst (AreLawful hooks) (sym (ap (λ xs. xs ++ es) added ∙ append_assoc entries (told hooks s c ∷ []) es))
      (so (told hooks s c ∷ es) (subst (Obeys s) is obeys, subst (λ x. AreLawfulFrom hooks x es) is lawful))

  pub lawful_done : (s : State) (entries : List Entry) → Goes s entries → AreLawful hooks entries
  lawful_done s entries so = subst (AreLawful hooks) (append-nil entries) (so [] tt)
