-- Every script keeps to the headline.
use Rattle.std.proofs.Common.{ℕ, List, subst, sym}
use Rattle.ptu_units.specs.Client.{table_of}
use Rattle.ptu_gm_messages.specs.Deciding.{client_of}
use Rattle.ptu_laws.specs.{Promises.{KeepsPromises}, Turned.{IsInEach}}
use Rattle.ptu_world.specs.{Deeds.{Grandmaster}, Grandmasters.{opening}}
use Rattle.ptu_world.specs.Headline.{DecidesByRoom, HasGrandmaster, NumbersDatagrams, PaysPeriods, RecordsDeliveries, RecordsEvents, SaysSo, SelectsBest, SendsInTime, ServesEachClient, SignalsAnswers, WithinBudget, WithinCapacity}
use Rattle.ptu_world.specs.{Sayings.{moment_handed}, World.{World, Stock}}
use Rattle.ptu_world.proofs.{Deciding.{is_answered, is_decided}, Numbering.{all_numbered, delivers}}
use Rattle.ptu_world.proofs.Going.{cancelled, capacity_goes, class_goes, datagram_goes, others_stay, turn_goes}
use Rattle.ptu_world.proofs.Promising.{run_keeps}
use Rattle.ptu_world.proofs.Receiving.{accepted, are_judged, flagged, ignored, quiet, rejudged, says, stopped, ticked}
use Rattle.ptu_world.proofs.Serving.{run_periods, run_rate, sent_in_each}
use Rattle.ptu_world.proofs.Reporting.{ended, malformed, next, refused, said}
use Rattle.ptu_world.proofs.Sayings.{datagram_names, event_names, says_of, step_best}
use Rattle.ptu_world.proofs.Signalling.{classed, replied, resized, turned, unheard}
use Rattle.ptu_world.proofs.Turning.{turns_taken}
use Rattle.ptu_world.proofs.Standing.{all_stand, grandmaster_runs, messages_sent}

module _ (stock : Stock) (script : List ℕ) (w : World) (ip : ℕ) (g : Grandmaster) (h : HasGrandmaster stock script w ip g) where
  keeps : KeepsPromises g.capacity g.past
  keeps = run_keeps ip g (grandmaster_runs stock script w ip g h.reached h.node)

pub within_capacity : (stock : Stock) (script : List ℕ) → WithinCapacity stock script
within_capacity stock script = record { within = λ w ip g h. (keeps stock script w ip g h).within }

pub decides_by_room : (stock : Stock) (script : List ℕ) → DecidesByRoom stock script
decides_by_room stock script = record {
  answered = λ w command r reaches handed. is_answered w command r handed;
  decided = λ w command r reaches handed. is_decided r.handed.node r (grandmaster_runs stock script w r.handed.node r.gm reaches handed.node);
}

pub pays_periods : (stock : Stock) (script : List ℕ) → PaysPeriods stock script
pays_periods stock script = record {
  paid = λ w ip g h. (keeps stock script w ip g h).paid;
  apart = λ w ip g h. (keeps stock script w ip g h).apart;
  sent = λ w ip g h. messages_sent stock script w ip g h.reached h.node;
}

pub records_events : (stock : Stock) (script : List ℕ) → RecordsEvents stock script
records_events stock script = record {
  datagram = λ w command d g h handed. datagram_goes w command d g handed h.node;
  cancelled = λ w command d g header before code k behind x h handed heard kind. cancelled (opening g) d.at (client_of d.from header) code k x kind before g.past;
  turn = λ w ip g t table h. turn_goes w ip g h.node t table;
  capacity = λ w ip g t capacity h. capacity_goes w ip g h.node t capacity;
  class = λ w ip g t class h. class_goes w ip g h.node t class;
  others = λ w command done ip reaches e ne. (others_stay w (all_stand stock script w reaches) ip command done e ne).0;
}

pub signals_answers : (stock : Stock) (script : List ℕ) → SignalsAnswers stock script
signals_answers stock script = record {
  replied = λ w command d g header item items h handed heard. replied w command d g h.node handed header item items heard;
  unheard = λ w command d g h handed none. unheard w command d g h.node handed none;
  turn = λ w ip g t table h. turned w ip g h.node t table;
  class = λ w ip g t class h. classed w ip g h.node t class;
  capacity = λ w ip g t capacity h. resized w ip g h.node t capacity;
  others = λ w command done ip reaches e ne. (others_stay w (all_stand stock script w reaches) ip command done e ne).1;
}

pub within_budget : (stock : Stock) (script : List ℕ) → WithinBudget stock script
within_budget stock script = record { within = λ w ip g h. (keeps stock script w ip g h).budget }

pub serves_each_client : (stock : Stock) (script : List ℕ) → ServesEachClient stock script
serves_each_client stock script = record {
  periods = λ w ip g h. run_periods ip g (grandmaster_runs stock script w ip g h.reached h.node);
  rate = λ w ip g h. run_rate ip g (grandmaster_runs stock script w ip g h.reached h.node);
}

pub sends_in_time : (stock : Stock) (script : List ℕ) → SendsInTime stock script
sends_in_time stock script = record {
  in_each = λ w ip g h c k n l u between from to kind last begun within turns.
      let taken = turns_taken stock script w ip g h (table_of c) in
      sent_in_each g taken.0 taken.1 c k n l u between from to kind last begun within (subst (λ ts. IsInEach between ts from to) (sym taken.2) turns);
}

pub selects_best : (stock : Stock) (script : List ℕ) → SelectsBest stock script
selects_best stock script = record {
  best = λ w command done reaches e. step_best w (moment_handed command) done (says_of w (all_stand stock script w reaches) command done e);
  event = λ w command done ip reaches of e. event_names w (all_stand stock script w reaches) command done ip of e;
  datagram = λ w command done d s reaches handed node event e. datagram_names w (all_stand stock script w reaches) command done d s handed node event e;
}

pub records_deliveries : (stock : Stock) (script : List ℕ) → RecordsDeliveries stock script
records_deliveries stock script = record {
  accepted = λ w command d s m message h handed e. accepted w command d s h.node handed m message e;
  ignored = λ w command d s reason h handed e. ignored w command d s h.node handed reason e;
  tick = λ w ip s t h. ticked w ip s h.node t;
  stop = λ w ip s t h. stopped w ip s h.node t;
  flag = λ w ip s t master m unusable h place. flagged w ip s h.node t master m unusable place;
  judge = λ w ip s t master m rule h place left. rejudged w ip s h.node t master m rule place left;
  says = says;
  quiet = quiet;
  judged = are_judged;
}

pub says_so : (stock : Stock) (script : List ℕ) → SaysSo stock script
says_so stock script = record { said = said stock script; leads_on = next stock script; refused = refused stock script; malformed = malformed stock script; ended = ended stock script }

pub numbers_datagrams : (stock : Stock) (script : List ℕ) → NumbersDatagrams stock script
numbers_datagrams stock script = record { in_order = all_numbered stock script; delivered = delivers stock script }

-- all of it
pub ruleset headline = (within_capacity, decides_by_room, pays_periods, records_events, signals_answers, within_budget, serves_each_client, sends_in_time, selects_best, records_deliveries, says_so, numbers_datagrams)
