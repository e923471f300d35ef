use Rattle.std.proofs.Common.{refl, subst}
use Rattle.session.specs.Session as told
use Rattle.session.proofs.session.Session.reopen.Goals as goal

pub returns-in-Ok : goal.returns-in-Ok
returns-in-Ok g c = record {
  given = g.D.Disk.state c.close.result;
  closes = subst (λ (s : told.State). told.Closes s (g.D.Disk.state c.close.result)) c.self.view_is (
    c.abort_all.new.store,
    c.abort_all.ensures.store,
    c.close.ensures,
  );
  sound = λ tells. g.met.D.Disk.sound c.close.result tells;
  opened = c.in-Ok.store;
  opens = c.in-Ok.ensures.ok;
  reply = refl;
  names = rw (c.abort_all.ensures.empty, c.give_up_all.ensures.empty) refl;
}
