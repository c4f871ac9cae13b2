use Rattle.std.proofs.Common.{refl}
use Rattle.std.proofs.lemmas.Result.{on_ok_weaker}
use Rattle.code_words.specs.PlaceWords.{by_socket, by_host, by_neither, socket_words, host_words}
use Rattle.code_words.specs.PlaceWords.{other_words}
use Rattle.code_words.proofs.place_word.push_place_words.Goals as goal

pub returns-in-Ok : goal.returns-in-Ok
returns-in-Ok c =
    on_ok_weaker c.push_socket.result
    (λ is. (
      socket_words c.in-Ok.socket,
      by_socket c.args.word.now _ c.in-Ok.socket c.in-Ok.ensures refl,
      is,
    ))
    c.push_socket.ensures

pub returns-in-Ok-parse_ascii : goal.returns-in-Ok-parse_ascii
returns-in-Ok-parse_ascii c =
    on_ok_weaker c.push_host.result
    (λ is. (
      host_words c.in-Ok-parse_ascii.host c.host_and_port.result,
      by_host c.args.word.now _ c.in-Ok-parse_ascii.host c.host_and_port.result
          c.in_default.ensures c.in-Ok-parse_ascii.ensures c.host_and_port.ensures refl,
      is,
    ))
    c.push_host.ensures

pub returns-in-Err : goal.returns-in-Err
returns-in-Err c =
    on_ok_weaker c.push_other.result
    (λ is. (
      other_words c.args.word.now,
      by_neither c.args.word.now _ c.in_default.ensures c.in-Err.ensures refl,
      is,
    ))
    c.push_other.ensures
