use Rattle.std.proofs.Common.{◌≡◌, [], ◌∷◌, refl, sym}
use Rattle.doors.specs.Calls.{Closed}
use Rattle.doors.specs.Fids.{named}
use Rattle.doors.specs.Requests.{closings}
use Rattle.doors.proofs.ServeLemmas.{asks_of}
use Rattle.doors.proofs.connection.Connection.close.Goals as goal

pub returns : goal.returns
returns g c = λ setting past told. record {
  calls = Closed c.in-Some.conversation.now.conv ∷ [];
  asks = asks_of (λ a calls. calls ≡ closings (a.conv ∷ [])) (named c.args.fid c.args.self.now.fids) c.in-Some.conversation.now (Closed c.in-Some.conversation.now.conv ∷ []) (sym c.in-Some.ensures) refl;
  told = c.close.ensures setting past told;
}
