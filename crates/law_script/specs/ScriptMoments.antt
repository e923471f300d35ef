-- The moments between the lines of a script.
use Rattle.std.specs.Prelude.{ℕ, List, [], ◌∷◌, ◌++◌, map}
use Rattle.history.specs.Machine.{Machine}
use Rattle.law_image.specs.Values.{Value}
use Rattle.session.specs.Session.{State, fresh}
use Rattle.session.specs.declared.names.OpenName.{OpenName}
use Rattle.session.specs.declared.names.TicketName.{TicketName}
use Rattle.session.specs.declared.reply.Reply.{Reply}
use Rattle.session.specs.declared.reply.Reply.TheVariants as reply
use Rattle.any_store.specs.Values.{StoreValue, is_log}
use Rattle.law_any_store.specs.Names.{names_from}
use Rattle.run.specs.declared.held.Held.{Held}
use Rattle.run.specs.declared.held.Held.TheVariants as held
use Rattle.run.specs.Places.{Place, Free, Running, Waits}
use Rattle.run.specs.Moments.{Moment}

-- a session between two lines, the machine that its store stands for, and the times of the commits of which a line `done` was written till then
pub record ScriptMoment : Type 0 where
  pub state : State
  pub machine : Machine Value
  pub done : List ℕ

-- no line is read yet
abbrev pub first_script_moment : StoreValue → Machine Value → ScriptMoment
first_script_moment store machine = record { state = fresh store; machine = machine; done = [] }

-- what the name of an open transaction stands for
abbrev pub transaction_of : OpenName → Held
transaction_of e = held.Transaction e.txn

-- what the name of a ticket stands for
abbrev pub ticket_of : TicketName → Held
ticket_of e = held.Ticket e.ticket

-- what the names of a session stand for, each in a place of its own: the open transactions, and then the tickets
abbrev pub held_of : State → List Held
held_of s = map transaction_of s.opened ++ map ticket_of s.tickets

-- what of a history such a name stands for; no view is held between two lines
abbrev pub place_of : Held → Place
place_of held.Nothing = Free
place_of (held.Transaction txn) = Running txn.snapshot txn.writes
place_of (held.Ticket ticket) = Waits ticket.time
place_of (held.View view) = Free

-- the moment of the calls before a line
abbrev pub moment_of : ScriptMoment → Moment
moment_of m = record {
  store = m.state.store;
  held = held_of m.state;
  world = record {
    machine = m.machine;
    in_heap = is_log m.state.store;
    names_from = names_from m.state.store;
    places = map place_of (held_of m.state);
  };
  done = m.done;
}

-- what is acknowledged once this is written too: `done` names the time of its commit
abbrev pub with_reply : Reply → List ℕ → List ℕ
with_reply (reply.Done time) done = time ∷ done
with_reply r done = done
