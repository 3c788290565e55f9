use Rattle.ptu_daemon.proofs.daemon.receive_from.Goals as goal

pub returns : goal.returns
returns g c =
    let e = c.receive.ensures in
    record {
      within = e.within;
      first = e.first;
      nothing = e.nothing;
      rest = e.rest;
      left = e.left;
      kept = e.kept;
      sent = e.sent;
      risen = e.risen;
      once = e.once;
      quiet = e.quiet;
      no_fall = e.no_fall;
    }
