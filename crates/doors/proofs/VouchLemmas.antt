-- What an answer tells of the user who was accepted.
use Rattle.std.proofs.Common.{◌≡◌, ℕ, List, false, Option, Some, None, refl, sym, ap, ◌∙◌}
use Rattle.std.specs.Prelude.{◌↔◌, Result, Ok, Err}
use Rattle.std.specs.Str.{bytes_eq}
use Rattle.wire_base.specs.declared.name.AuthInfo.{AuthInfo}
use Rattle.wire_base.proofs.ReaderLaws.{AreBytes}
use Rattle.sealing.specs.Info.{IsInfo}
use Rattle.sealing.specs.InfoReading.{info_reading}
use Rattle.sealing.proofs.InfoLaws.{info_again, info_taken}
use Rattle.doors.specs.Requests.{accepts}

-- it is read
pub vouched_by : (uname bytes : List ℕ) (found : Option AuthInfo) (info : AuthInfo) → ((i : AuthInfo) → (found ≡ Some i) ↔ IsInfo bytes i) → found ≡ Some info → bytes_eq info.suid uname ≡ accepts uname (info_reading bytes)
vouched_by uname bytes found info reads is = ap (λ (r : Result AuthInfo ℕ). accepts uname r) (sym (info_again bytes info ((reads info).0 is)))

-- it isn't
none_read : (uname bytes : List ℕ) (found : Option AuthInfo) (read : Result AuthInfo ℕ) → ((i : AuthInfo) → read ≡ Ok i → found ≡ Some i) → found ≡ None → false ≡ accepts uname read
none_read uname bytes found (Ok info) reads is = absurd (let bad : None ≡ Some info = sym is ∙ reads info refl in cc)
none_read uname bytes found (Err at) reads is = refl

pub vouched_none : (uname bytes : List ℕ) (found : Option AuthInfo) → AreBytes bytes → ((i : AuthInfo) → (found ≡ Some i) ↔ IsInfo bytes i) → found ≡ None → false ≡ accepts uname (info_reading bytes)
vouched_none uname bytes found small reads is = none_read uname bytes found (info_reading bytes) (λ i e. (reads i).1 (info_taken bytes i small e)) is
