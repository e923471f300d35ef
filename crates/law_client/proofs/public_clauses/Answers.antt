use Rattle.law_client.proofs.public_clauses.Goals as goal

pub returns : goal.returns
returns c = record {
  first = c.stops_survive.ensures.first;
  survives = c.stops_survive.ensures.survives;
  writes = c.writes_stand.ensures.stands;
  stops = c.calls_link.ensures.stops;
  runs = c.calls_link.ensures.runs;
  times = c.times_stay_kept.ensures.kept;
  done = c.done_names_its_submit.ensures.done;
  put = c.writes_are_submitted.ensures.put;
  delete = c.writes_are_submitted.ensures.delete;
  views = c.views_stay.ensures.answers;
  later = c.later_changes_nothing.ensures;
  adds = c.run_adds.ensures.order;
  publishes = c.run_adds.ensures.published;
  conflicts = c.answers_are_exact.ensures.conflict;
}
