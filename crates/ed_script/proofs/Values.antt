-- The value that a line's bytes are.
use Rattle.std.proofs.Common.{◌≡◌, ℕ, Bool, true, false, List, Some, None, refl}
use Rattle.std.specs.Str.{is_utf8, IsUtf8}
use Rattle.std.proofs.lemmas.Str.{is_utf8-from_IsUtf8, IsUtf8-from_is_utf8}
use Rattle.serde_json.specs.Data.{Data}
use Rattle.serde_json.specs.Read.{read}
use Rattle.ed_script.specs.Script.{value_of}

pub value_of-some : (line : List ℕ) (d : Data) → IsUtf8 line → read line ≡ Some d → value_of line ≡ Some d
unfolding value_of
value_of-some line d text e = rw (is_utf8-from_IsUtf8 line text) e

none_by : (line : List ℕ) (b : Bool) → is_utf8 line ≡ b → (IsUtf8 line → read line ≡ None) → value_of line ≡ None
unfolding value_of
none_by line true e none = rw e (none (IsUtf8-from_is_utf8 line e))
none_by line false e none = rw e refl

pub value_of-none : (line : List ℕ) → (IsUtf8 line → read line ≡ None) → value_of line ≡ None
value_of-none line none = none_by line (is_utf8 line) refl none
