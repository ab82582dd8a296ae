-- What an attacker makes of what it has: whole messages.
use Rattle.std.proofs.Common.{ℕ, List}
use Rattle.symbolic_runs.specs.Trees.{Tree, seal}
use Rattle.symbolic_runs.specs.Derivations.{Derives, in_public, by_joining, by_sealing, each_none, each_piece}
use Rattle.symbolic_runs.specs.Forms.{by_client, Fields, pair, request, ticket, authenticator, client_message}

pub make_request : (known : List Tree) (kind : List ℕ) (fields : Fields) (chal : Tree) → Derives known chal → Derives known (request kind fields chal)
make_request known kind fields chal d =
    by_joining (each_piece (in_public kind) (each_piece (in_public fields.authid) (each_piece (in_public fields.authdom) (each_piece d (each_piece (in_public fields.hostid) (each_piece (in_public fields.uid) each_none))))))

pub make_pair : (known : List Tree) (a b : Tree) → Derives known a → Derives known b → Derives known (pair a b)
make_pair known a b d e = by_joining (each_piece d (each_piece e each_none))

pub make_authenticator : (known : List Tree) (kind : List ℕ) (chal : Tree) → Derives known chal → Derives known (authenticator kind chal)
make_authenticator known kind chal d = by_joining (each_piece (in_public kind) (each_piece d (each_piece (in_public _) each_none)))

pub make_ticket : (known : List Tree) (kind cuid suid : List ℕ) (chal key : Tree) → Derives known chal → Derives known key → Derives known (ticket kind chal cuid suid key)
make_ticket known kind cuid suid chal key d e = by_joining (each_piece (in_public kind) (each_piece d (each_piece (in_public cuid) (each_piece (in_public suid) (each_piece e each_none)))))

pub make_client_message : (known : List Tree) (handed key chal : Tree) → Derives known handed → Derives known key → Derives known chal → Derives known (client_message handed key chal)
make_client_message known handed key chal d e f = make_pair known handed (seal key (authenticator by_client chal)) d (by_sealing e (make_authenticator known by_client chal f))
