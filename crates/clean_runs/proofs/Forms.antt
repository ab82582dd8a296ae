-- What passed its tests in the login has the form of its move.
use Rattle.std.proofs.Common.{◌≡◌, ℕ, List, [], Ok, length, refl, subst, Option}
use Rattle.symbolic_runs.specs.Trees.{nonce, ticket_key}
use Rattle.symbolic_runs.specs.Spellings.{spelling}
use Rattle.symbolic_runs.specs.Forms.{AreFields}
use Rattle.symbolic_runs.specs.Moves.{AreNames}
use Rattle.wire_histories.specs.Legal.{Spoken}
use Rattle.clean_runs.specs.Clean.{AtEachPlace, FormsStep}
use Rattle.clean_runs.specs.Runs.{setting_of}
use Rattle.clean_runs.specs.Login.{Secrets, ann, fields, handed, key_bytes, labelling, login, login_setting, name_28, reading}
use Rattle.clean_runs.proofs.LoginPlaces.{Everywhere, everywhere}

whole : (user : List ℕ) → length (name_28 user) ≡ 28 → AreFields (fields user)
whole user is = record { authid = refl; authdom = refl; hostid = is; uid = is }

names : AreNames (name_28 ann) (name_28 ann)
names = record { client_whole = refl; server_whole = refl }

seven : (k : Secrets) (b : List ℕ) → spelling (reading k) (ticket_key 0) ≡ Ok b → length b ≡ 7
seven k b is = (let same : key_bytes k.first ≡ b = cc in subst (λ (x : List ℕ). length x ≡ 7) same refl)

pub all : (k : Secrets) (spoken : List ℕ → Option Spoken) → Everywhere (FormsStep (reading k) (setting_of (login_setting k spoken) labelling (login k)) labelling) (login k)
all k spoken = (refl, (tt, (tt, (record { cuid = name_28 ann; suid = name_28 ann; names = names; key = ticket_key 0; is = refl }, (tt, (record { cuid = name_28 ann; suid = name_28 ann; names = names; key = ticket_key 0; seven = seven k; handed = handed; is = refl }, (tt, ((record { fields = fields ann; whole = whole ann refl; chal = nonce 1; is = refl }, tt), (tt, (record { fields = fields []; whole = whole [] refl; chal = nonce 1; is = refl }, (tt, (tt, (tt, (tt, (tt, (tt, (tt, (tt, (tt, (tt, tt))))))))))))))))))))

pub forms : (k : Secrets) (spoken : List ℕ → Option Spoken) → AtEachPlace (login k) (FormsStep (reading k) (setting_of (login_setting k spoken) labelling (login k)) labelling)
forms k spoken = everywhere (FormsStep (reading k) (setting_of (login_setting k spoken) labelling (login k)) labelling) (login k) (all k spoken)
