use Rattle.std.proofs.Common.{◌≡◌, List, [], ◌∷◌, ap, subst, ◌∙◌}
use Rattle.doors.specs.declared.fid.Held.{Held}
use Rattle.doors.specs.Fids.{named, without}
use Rattle.doors.specs.Requests.{OfNames, closings}
use Rattle.doors.proofs.connection.Connection.give_up.Goals as goal

pub returns : goal.returns
returns g c = λ done setting past keeps told.
    let closed = c.close.ensures setting past told in
    record {
      calls = closed.calls;
      asks = subst (λ (all : List Held). OfNames (λ a calls. calls ≡ closings (a.conv ∷ [])) (named c.args.fid all) closed.calls) keeps.held closed.asks;
      told = closed.told;
      keeps = record { msize = keeps.msize; held = c.remove.ensures ∙ ap (λ (all : List Held). without c.args.fid all) keeps.held };
    }
