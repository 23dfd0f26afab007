-- The faults of words and of the demonstration as faults of the program.
use Rattle.turn_cli.specs.declared.error.CliError.{CliError}
use Rattle.turn_cli.specs.declared.error.CliError.TheVariants as word_faults
use Rattle.turn_client.specs.declared.error.ClientError.{ClientError}
use Rattle.turn_client.specs.declared.error.ClientError.TheVariants as client_faults
use Rattle.turn_faults.specs.declared.error.ProgramError.{ProgramError}
use Rattle.turn_faults.specs.declared.error.ProgramError.TheVariants.{BadDatagram, Memory, Socket, Usage}
use Rattle.turn_service.specs.Faults.{of_start, of_turn}

-- the fault of the words of a command line
abbrev pub of_words : CliError → ProgramError
of_words word_faults.Usage = Usage
of_words word_faults.BadDatagram = BadDatagram
of_words word_faults.Memory = Memory

-- the fault of the demonstration; an answer that doesn't come, or another one, is of the sockets
abbrev pub of_client : ClientError → ProgramError
of_client (client_faults.Start fault) = of_start fault
of_client (client_faults.Turn fault) = of_turn fault
of_client client_faults.Memory = Memory
of_client client_faults.Socket = Socket
of_client client_faults.Silent = Socket
of_client client_faults.Unexpected = Socket
of_client client_faults.TooLong = Socket
