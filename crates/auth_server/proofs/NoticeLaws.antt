-- What is noted of a ticket request says under which keys its tickets are.
use Rattle.std.proofs.Common.{◌≡◌, ℕ, List, [], Bool, true, false, ◌&&◌, Option, Some, None, refl, inl, inr, cond}
use Rattle.std.specs.Prelude.{is_some}
use Rattle.sealing.specs.declared.request.TicketReq.{TicketReq}
use Rattle.auth_tables.specs.Keys.{UserKey}
use Rattle.auth_server.specs.Answers.{Knowledge}
use Rattle.auth_server.specs.Notices.{IsUnderKeys, LacksKeys, outcome_of_ticket}
use Rattle.auth_server.specs.declared.log.Outcome.TheVariants.{Granted, Refused}

module _ (known : Knowledge) (words : List (List ℕ)) (r : TicketReq) where
  under : (may : Bool) (host server : Option UserKey) → known.speaks r.hostid r.uid ≡ may → known.key r.hostid ≡ host → known.key r.authid ≡ server
      → cond (may && (is_some host && is_some server)) Granted Refused ≡ Granted → IsUnderKeys known words r
  under true (Some host) (Some server) a b c e = record { host = host; server = server; may = a; hosts = b; servers = c; is = rw (a, b, c) refl }
  under true (Some host) None a b c e = absurd cc
  under true None server a b c e = absurd cc
  under false host server a b c e = absurd cc

  lacks : (may : Bool) (host server : Option UserKey) → known.speaks r.hostid r.uid ≡ may → known.key r.hostid ≡ host → known.key r.authid ≡ server
      → cond (may && (is_some host && is_some server)) Granted Refused ≡ Refused → LacksKeys known r
  lacks true (Some host) (Some server) a b c e = absurd cc
  lacks true (Some host) None a b c e = inr (inr c)
  lacks true None server a b c e = inr (inl b)
  lacks false host server a b c e = inl a

pub granted_under : (known : Knowledge) (words : List (List ℕ)) (r : TicketReq) → outcome_of_ticket known r ≡ Granted → IsUnderKeys known words r
granted_under known words r = under known words r (known.speaks r.hostid r.uid) (known.key r.hostid) (known.key r.authid) refl refl refl

pub refused_lacks : (known : Knowledge) (r : TicketReq) → outcome_of_ticket known r ≡ Refused → LacksKeys known r
refused_lacks known r = lacks known [] r (known.speaks r.hostid r.uid) (known.key r.hostid) (known.key r.authid) refl refl refl
