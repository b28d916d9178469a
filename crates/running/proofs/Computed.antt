-- What the worked cases share: all definitions that they compute with, under one name (a case says `unfolding played_computed`).
use Rattle.reading.specs.Read.{and_then, byte_at}
use Rattle.service.proofs.Computed.{computed}
use Rattle.running.specs.Products.{news, threads_of, system_news, system_threads, start}
use Rattle.running.specs.Moves.{guard, given, run_name, as_sending, as_receiving, as_repeat, environment_knows, made, singles, join, after, now_known, has_room, word, record_of, taken, unfold_step, send_step, receive_step, communicate_step, environment_step, step, state_after, record_bytes, run_states, run_log}
use Rattle.running.specs.Script.{move_from, move_at, moves_from, as_twenty_one, read_script}
use Rattle.running.specs.Play.{opened_from, opened, logged, outcome_of, played}

unfoldable pub played_computed : Unit {0}
unfolding computed news threads_of system_news system_threads start guard given run_name as_sending as_receiving as_repeat environment_knows made singles join after now_known has_room word record_of taken unfold_step send_step receive_step communicate_step environment_step step state_after record_bytes run_states run_log move_from move_at moves_from as_twenty_one read_script opened_from opened logged outcome_of played
played_computed = tt
