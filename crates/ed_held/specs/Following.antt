-- A version that comes next of a buffer that stands on others, whatever its kind.
use Rattle.std.specs.Prelude.{◌≡◌, ℕ, ◌-◌, List, length, Option}
use Rattle.ed_base.specs.ChangeList.{change_list, new_len, step}
use Rattle.ed_layers.specs.CarrierStep.{carrier_step}
use Rattle.ed_layers.specs.Records.{Record, members_len, members_of}
use Rattle.ed_layers.specs.SourceStep.{SourceStep}
use Rattle.ed_project.specs.Texts.{text_in, text_over}
use Rattle.ed_version.specs.declared.Snapshot.{Snapshot}
use Rattle.ed_held.specs.declared.moves.Planned.{Planned}
use Rattle.ed_held.specs.Moves.{changes_of, record_of, snapshot_of}
use Rattle.ed_held.specs.Seen.{Known, last_of, text_of}

-- It has this record, and the text of its members over these snapshots. Its changes are those of the carrier's step from the current version, and they make that step.
pub record Follows (stays : ℕ → Option ℕ) (steps : ℕ → Option SourceStep) (sources : List Snapshot) (k : Known) (r : Record) (p : Planned) : Type 0 where
  pub record_is : record_of p ≡ r
  pub text : (snapshot_of p).text ≡ text_over (text_in sources) (members_of r)
  pub changes : changes_of p ≡ change_list (carrier_step stays steps (last_of k.buffer) r) (snapshot_of p).text
  pub step : step (changes_of p) ≡ carrier_step stays steps (last_of k.buffer) r
  pub number : (snapshot_of p).buffer ≡ k.number
  pub version : (snapshot_of p).version ≡ length k.buffer.records
  pub from : (changes_of p).old_len ≡ length (text_of k (length k.buffer.records - 1))
  pub to : new_len (changes_of p) ≡ length (snapshot_of p).text
  pub long : length (snapshot_of p).text ≡ members_len (members_of r)
