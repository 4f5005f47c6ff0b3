-- What the code's request means in the model.
use Rattle.model.specs.Registers.{Request, status_read, key_sector, data_transfer, sector_access, other}
use Rattle.record.specs.DeviceMeaning.{as_direction}
use Rattle.request.specs.declared.request as request
use Rattle.request.specs.declared.request.Operation.TheVariants.{Key, Data, Sector, Other}
use Rattle.request.specs.declared.request.Request.TheVariants.{Status, Operation}

abbrev pub as_operation : request.Operation.Operation → Request
as_operation Key = key_sector
as_operation (Data dir count) = data_transfer (as_direction dir) count
as_operation (Sector dir count lba) = sector_access (as_direction dir) count lba
as_operation Other = other

abbrev pub as_request : request.Request.Request → Request
as_request Status = status_read
as_request (Operation o) = as_operation o
