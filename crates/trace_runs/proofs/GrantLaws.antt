-- That what is granted by the tables that were noted is what is granted by those of the setting.
use Rattle.std.proofs.Common.{◌≡◌, ℕ, zero, suc, ◌≤◌, ◌==◌, List, [], ◌∷◌, ◌++◌, length, Some, None, Option, Bool, true, false, Result, Ok, Err, sym, refl, ap, ◌∙◌, arith, is_some, map, take, if◌then◌else◌, Bor, slice_get}
use Rattle.sealing.specs.declared.fault.FieldFault.{FieldFault}
use Rattle.sealing.specs.declared.request.TicketReq.{TicketReq}
use Rattle.symbolic_runs.specs.Sessions as table
use Rattle.symbolic_runs.specs.Trees.{Tree}
use Rattle.auth_server.specs.Answers.{Knowledge}
use Rattle.wire_histories.specs.Noted.{IsNotedOf, Noted}
use Rattle.clean_runs.specs.Runs.{grant_by, tickets_for, vouch_for}
use Rattle.trace_runs.specs.declared.deeds.Granted.{Granted}
use Rattle.trace_runs.specs.Grants.{IsGrant, grant_in, known_in, name_behind, name_if, name_in, tickets_in, vouch_in}
use Rattle.auth_tables.specs.Keys.{KeyLine, UserKey, key_of}
use Rattle.auth_tables.specs.Speaks.{may_speak, names_of}
use Rattle.clean_runs.specs.KeyNames.{before_first, is_this, key_in, key_name, known_name, named_by, with_number}
use Rattle.wire_histories.specs.Legal.{Setting, Tables, known_at, tables_at}
use Rattle.trace_runs.specs.Tables.{tables_of}

-- the tables of a number, where there are some
pub at_number : (tables : List Tables) (number : ℕ) (t : Tables) → Some t ≡ slice_get tables number → tables_at tables number ≡ t
at_number [] number t e = absurd (let so : Some t ≡ None = e in cc)
at_number (x ∷ tables) zero t e = (let so : Some t ≡ Some x = e in cc)
at_number (x ∷ tables) (suc number) t e = at_number tables number t e

-- tables by which each user has the same keys
pub same_first : (a b : List Tables) (number : ℕ) (user : List ℕ) (key : UserKey) → length a ≡ length b
    → ((i : ℕ) → key_of user (tables_at a i).keys ≡ key_of user (tables_at b i).keys)
    → before_first (tables_of (map (λ t. t.keys) (take number a))) user key ≡ before_first (take number b) user key
same_first [] [] zero user key e h = refl
same_first [] [] (suc number) user key e h = refl
same_first [] (y ∷ b) number user key e h = absurd (omega (arith, e))
same_first (x ∷ a) [] number user key e h = absurd (omega (arith, e))
same_first (x ∷ a) (y ∷ b) zero user key e h = refl
same_first (x ∷ a) (y ∷ b) (suc number) user key e h =
    let rest : ℕ = before_first (tables_of (map (λ t. t.keys) (take number a))) user key in
    ap (λ (o : Option UserKey). if is_this key o then 0 else suc rest) (h 0)
    ∙ ap (λ (n : ℕ). if is_this key (key_of user y.keys) then 0 else suc n) (same_first a b number user key (omega (arith, e)) (λ i. h (suc i)))

-- ---- the keys of the tables before

pub no_more : (tables : List Tables) (number below : ℕ) → None ≡ slice_get tables number → number ≤ below → take number tables ≡ take below tables
no_more [] zero zero e less = refl
no_more [] zero (suc below) e less = refl
no_more [] (suc number) zero e less = refl
no_more [] (suc number) (suc below) e less = refl
no_more (x ∷ tables) zero below e less = absurd (let so : None ≡ Some x = e in cc)
no_more (x ∷ tables) (suc number) zero e less = absurd (omega (arith, less))
no_more (x ∷ tables) (suc number) (suc below) e less = ap (λ (xs : List Tables). x ∷ xs) (no_more tables number below e (omega (arith, less)))

taken_more : (tables : List Tables) (number : ℕ) (t : Tables) → Some t ≡ slice_get tables number → take (suc number) tables ≡ take number tables ++ t ∷ []
taken_more [] number t e = absurd (let so : Some t ≡ None = e in cc)
taken_more (x ∷ tables) zero t e = (let so : Some t ≡ Some x = e in cc)
taken_more (x ∷ tables) (suc number) t e = ap (λ (xs : List Tables). x ∷ xs) (taken_more tables number t e)

map_end : (list : List (Bor (List KeyLine))) (keys : Bor (List KeyLine)) → map (λ t. t.now) (list ++ keys ∷ []) ≡ map (λ t. t.now) list ++ keys.now ∷ []
map_end [] keys = refl
map_end (x ∷ list) keys = ap (λ (xs : List (List KeyLine)). x.now ∷ xs) (map_end list keys)

keys_end : (list : List Tables) (t : Tables) → map (λ t. t.keys) (list ++ t ∷ []) ≡ map (λ t. t.keys) list ++ t.keys ∷ []
keys_end [] t = refl
keys_end (x ∷ list) t = ap (λ (xs : List (List KeyLine)). x.keys ∷ xs) (keys_end list t)

pub one_more : (tables : List Tables) (number : ℕ) (t : Tables) (keys : Bor (List KeyLine)) (list more : List (Bor (List KeyLine)))
    → Some t ≡ slice_get tables number → t.keys ≡ keys.now → map (λ t. t.now) list ≡ map (λ t. t.keys) (take number tables)
    → more ≡ list ++ keys ∷ [] → map (λ t. t.now) more ≡ map (λ t. t.keys) (take (suc number) tables)
one_more tables number t keys list more found same so e =
    ap (λ (xs : List (Bor (List KeyLine))). map (λ t. t.now) xs) e
    ∙ (map_end list keys
    ∙ (ap (λ (xs : List (List KeyLine)). xs ++ keys.now ∷ []) so
    ∙ (ap (λ (k : List KeyLine). map (λ t. t.keys) (take number tables) ++ k ∷ []) (sym same)
    ∙ (sym (keys_end (take number tables) t) ∙ ap (λ (xs : List Tables). map (λ t. t.keys) xs) (sym (taken_more tables number t found))))))

-- ---- the grant

pub granted_so : (z : Setting) (n : Noted) (number : ℕ) (t : Tables) (before : List (List KeyLine)) (request : Result TicketReq FieldFault) (label : Tree) (granted : Granted)
    → IsNotedOf z n → Some t ≡ slice_get n.tables number → before ≡ map (λ t. t.keys) (take number n.tables)
    → IsGrant granted (grant_in before t.keys t.speaks request label) → IsGrant granted (grant_by z number request label)
granted_so z n number t before (Err fault) label granted noted found e so = so
granted_so z n number t before (Ok r) label granted noted found e so = by_kind (r.kind == 1) so
  where
    known : t.keys ≡ (tables_at n.tables number).keys
    known = ap (λ (x : Tables). x.keys) (sym (at_number n.tables number t found))

    key_is : (user : List ℕ) → key_of user t.keys ≡ key_of user (tables_at z.tables number).keys
    key_is user = ap (key_of user) known ∙ ap (λ (k : Knowledge). k.key user) (noted.known number)

    may_is : (host user : List ℕ) → may_speak (names_of host t.speaks) host user ≡ (known_at z number).speaks host user
    may_is host user =
        ap (λ (x : Tables). may_speak (names_of host x.speaks) host user) (sym (at_number n.tables number t found))
        ∙ ap (λ (k : Knowledge). k.speaks host user) (noted.known number)

    behind : (user : List ℕ) (o : Option UserKey) → name_behind before user o ≡ named_by z.tables number user o
    behind user None = refl
    behind user (Some key) = ap (with_number user) (ap (λ (b : List (List KeyLine)). before_first (tables_of b) user key) e
        ∙ same_first n.tables z.tables number user key noted.as_many (λ i. ap (λ (k : Knowledge). k.key user) (noted.known i)))

    name_is : (user : List ℕ) → name_in before t.keys user ≡ key_name z.tables number user
    name_is user = ap (name_behind before user) (key_is user) ∙ behind user (key_in z.tables number user)

    known_is : (user : List ℕ) → known_in before t.keys user ≡ known_name z number user
    known_is user =
        ap (λ (o : Option UserKey). if is_some o then Some (name_in before t.keys user) else None) (key_is user)
        ∙ ap (λ (name : List ℕ). if is_some (key_of user (tables_at z.tables number).keys) then Some name else None) (name_is user)

    if_is : (user : List ℕ) → name_if (may_speak (names_of r.hostid t.speaks) r.hostid r.uid) before t.keys user
        ≡ name_if ((known_at z number).speaks r.hostid r.uid) before t.keys user
    if_is user = ap (λ (may : Bool). name_if may before t.keys user) (may_is r.hostid r.uid)

    used_is : (user : List ℕ) → name_if (may_speak (names_of r.hostid t.speaks) r.hostid r.uid) before t.keys user
        ≡ (if (known_at z number).speaks r.hostid r.uid then known_name z number user else None)
    used_is user = if_is user ∙ ap (λ (o : Option (List ℕ)). if (known_at z number).speaks r.hostid r.uid then o else None) (known_is user)

    tickets_so : IsGrant granted (tickets_in before t.keys t.speaks r label) → IsGrant granted (tickets_for z number r label)
    tickets_so is = record {
      used = is.used ∙ (ap (λ (o : Option (List ℕ)). table.keys o (name_if (may_speak (names_of r.hostid t.speaks) r.hostid r.uid) before t.keys r.hostid)) (used_is r.authid)
          ∙ ap (λ (o : Option (List ℕ)). table.keys (if (known_at z number).speaks r.hostid r.uid then known_name z number r.authid else None) o) (used_is r.hostid));
      chal = is.chal;
      host = is.host;
      user = is.user;
    }

    vouch_so : IsGrant granted (vouch_in before t.keys r label) → IsGrant granted (vouch_for z number r label)
    vouch_so is = record {
      used = is.used ∙ (ap (λ (o : Option (List ℕ)). table.key_and_password o (name_in before t.keys r.uid)) (known_is r.authid)
          ∙ ap (λ (name : List ℕ). table.key_and_password (known_name z number r.authid) name) (name_is r.uid));
      chal = is.chal;
      host = is.host;
      user = is.user;
    }

    by_kind : (tickets : Bool) → IsGrant granted (if tickets then tickets_in before t.keys t.speaks r label else vouch_in before t.keys r label)
        → IsGrant granted (if tickets then tickets_for z number r label else vouch_for z number r label)
    by_kind true is = tickets_so is
    by_kind false is = vouch_so is
