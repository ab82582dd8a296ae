-- What is in force behind a look at the files of tables.
use Rattle.std.proofs.Common.{◌≡◌, ◌∙◌, ℕ, suc, List, [], ◌∷◌, Option, Some, None, ap, subst, inl, inr}
use Rattle.auth_server.specs.Answers.{Knowledge}
use Rattle.auth_server.specs.Standing.{Server, knowledge}
use Rattle.auth_server.specs.Serving.{Moment}
use Rattle.auth_program.specs.Cores.{HasCore, StopsEarly}
use Rattle.auth_program.specs.Renewals.{Finds, Found, HasRefused, HasRenewed, InForceAt, InForceBy, IsKnownBy, MayFollow, Renewed, Texts}
use Rattle.auth_program.specs.declared.status.Status.{Status}
use Rattle.auth_program.specs.declared.renewal.Renewal.{Renewal}
use Rattle.auth_program.specs.declared.renewal.Renewal.TheVariants.{Same, Read, Refused}
use Rattle.auth_program.proofs.FileLemmas.{told_file}

-- what a server by two texts knows is known by what is told of them
known_by_core : (dom : List ℕ) (texts left : Texts) (server : Server) → HasCore dom texts.keys left.keys texts.speaks left.speaks server → IsKnownBy dom texts (knowledge server)
known_by_core dom texts left server h = record {
  keys = h.keys;
  speaks = h.speaks;
  keys_told = λ text told. told_file text h.keys texts.keys left.keys told h.read_keys;
  speaks_told = λ text told. told_file text h.speaks texts.speaks left.speaks told h.read_speaks;
  good_keys = h.good_keys;
  good_speaks = h.good_speaks;
  is = h.knows;
}

-- both texts were read, and are good
pub renewed : (dom : List ℕ) (looks later : Option (List Found)) (keys keys_left speaks speaks_left : Option (List ℕ)) (server : Server)
    → Finds looks later (Some (record { keys = keys; speaks = speaks })) → HasCore dom keys keys_left speaks speaks_left server → HasRenewed dom looks later server
renewed dom looks later keys keys_left speaks speaks_left server f h = record {
  texts = record { keys = keys; speaks = speaks };
  left = record { keys = keys_left; speaks = speaks_left };
  found = f;
  core = h;
}

-- one was refused, or not read whole
pub refused : (status : Status) (looks later : Option (List Found)) (keys keys_left speaks speaks_left : Option (List ℕ))
    → Finds looks later (Some (record { keys = keys; speaks = speaks }))
    → ((client : Moment) → StopsEarly status (record { keys = keys; speaks = speaks; client = client }) (record { keys = keys_left; speaks = speaks_left; client = client }))
    → HasRefused status looks later
refused status looks later keys keys_left speaks speaks_left f h = record {
  texts = record { keys = keys; speaks = speaks };
  left = record { keys = keys_left; speaks = speaks_left };
  found = f;
  stops = h;
}

-- what a look found, and what may follow it
followed : (dom : List ℕ) (renewal : Renewal) (looks later : Option (List Found)) (old new : Server) → Renewed dom renewal looks later old new
    → (found : Found) × Finds looks later found × MayFollow dom found (knowledge old) (knowledge new)
followed dom Same looks later old new r = (None, r.0, ap knowledge r.1)
followed dom Read looks later old new r = (Some r.texts, r.found, inr (known_by_core dom r.texts r.left new r.core))
followed dom (Refused status) looks later old new r = (Some r.0.texts, r.0.found, inl (ap knowledge r.1))

next_in : (dom : List ℕ) (looks later : Option (List Found)) (found : Found) (old new : Knowledge) → Finds looks later found → MayFollow dom found old new → InForceAt dom looks old 0 new
next_in dom None later found old new f m = tt
next_in dom (Some looks) None found old new f m = absurd f
next_in dom (Some []) (Some later) found old new f m = subst (λ (x : Found). MayFollow dom x old new) f.0 m
next_in dom (Some (next ∷ looks)) (Some later) found old new f m = subst (λ (x : Found). MayFollow dom x old new) f.0 m

later_in : (dom : List ℕ) (looks later : Option (List Found)) (found : Found) (old new : Knowledge) → Finds looks later found → MayFollow dom found old new
    → (number : ℕ) (known : Knowledge) → InForceAt dom later new number known → InForceAt dom looks old (suc number) known
later_in dom None later found old new f m number known h = tt
later_in dom (Some looks) None found old new f m number known h = absurd f
later_in dom (Some []) (Some later) found old new f m number known h =
    let still : known ≡ new = subst (λ (l : List Found). InForceBy dom l new number known) f.1 h in
    still ∙ subst (λ (x : Found). MayFollow dom x old new) f.0 m
later_in dom (Some (next ∷ looks)) (Some later) found old new f m number known h =
    (new, subst (λ (x : Found). MayFollow dom x old new) f.0 m, subst (λ (l : List Found). InForceBy dom l new number known) f.1 h)

pub next_by : (dom : List ℕ) (renewal : Renewal) (looks later : Option (List Found)) (old new : Server) → Renewed dom renewal looks later old new → InForceAt dom looks (knowledge old) 0 (knowledge new)
next_by dom renewal looks later old new r =
    let f = followed dom renewal looks later old new r in
    next_in dom looks later f.0 (knowledge old) (knowledge new) f.1 f.2

pub later_by : (dom : List ℕ) (renewal : Renewal) (looks later : Option (List Found)) (old new : Server) → Renewed dom renewal looks later old new
    → (number : ℕ) (known : Knowledge) → InForceAt dom later (knowledge new) number known → InForceAt dom looks (knowledge old) (suc number) known
later_by dom renewal looks later old new r =
    let f = followed dom renewal looks later old new r in
    later_in dom looks later f.0 (knowledge old) (knowledge new) f.1 f.2
